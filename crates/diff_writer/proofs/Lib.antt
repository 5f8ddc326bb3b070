pub mod Masks
pub mod Writing
pub mod Measuring
pub mod Saying
pub mod WriteLoops
