pub mod Queueing
pub mod Acting
