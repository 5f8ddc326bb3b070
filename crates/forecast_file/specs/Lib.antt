pub mod Files
pub mod Standing
pub mod Promises
pub mod inner
