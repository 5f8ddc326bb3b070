pub mod Promises
pub mod Calls
pub mod inner
