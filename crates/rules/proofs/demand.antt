-- the two halves of demand 3
pub mod WeakHalf
pub mod StrongHalf
pub mod ListRuns
