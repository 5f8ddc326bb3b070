pub mod Coming
pub mod Filling
pub mod Writing
pub mod Answered
pub mod Turns
