pub mod Learning
pub mod Rounds
pub mod Completing
pub mod Acting
