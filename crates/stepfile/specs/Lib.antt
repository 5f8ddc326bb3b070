pub mod Files
pub mod ListingA
pub mod Feeding
pub mod Promises
pub mod inner
