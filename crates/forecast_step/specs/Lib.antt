pub mod Memory
pub mod inner
