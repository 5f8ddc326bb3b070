pub mod Telling
pub mod Writing
