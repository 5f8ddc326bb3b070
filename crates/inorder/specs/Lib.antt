pub mod Areas
pub mod inner
