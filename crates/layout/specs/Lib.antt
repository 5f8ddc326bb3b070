pub mod Layout
pub mod Areas
pub mod inner
