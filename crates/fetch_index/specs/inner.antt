-- what functions and proofs say of one another: no reader need believe it
pub mod Keys
pub mod Rows
pub mod Done
pub mod Index
pub mod Needed
