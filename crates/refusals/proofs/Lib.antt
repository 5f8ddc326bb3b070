pub mod Marked
pub mod Counting
pub mod ByKind
pub mod LateRows
pub mod Fitting
pub mod Refusing
