pub mod Standing
pub mod Coming
pub mod Writing
pub mod Taking
pub mod Answered
