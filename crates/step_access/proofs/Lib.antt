pub mod Storing
pub mod Accessing
