pub mod Sequence
pub mod inner
