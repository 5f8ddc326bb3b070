pub mod Collecting
pub mod Clearing
pub mod Emptying
