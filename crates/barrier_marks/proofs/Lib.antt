pub mod Counting
pub mod Wishing
