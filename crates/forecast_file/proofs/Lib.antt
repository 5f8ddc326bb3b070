pub mod Records
pub mod Whole
pub mod Passing
pub mod Ending
pub mod Steps
pub mod Taking
