pub mod Bytes
pub mod Records
pub mod Passing
pub mod Runs
