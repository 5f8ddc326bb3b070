pub mod Foreseeing
pub mod Closing
pub mod Locking
pub mod Queueing
pub mod Meeting
pub mod Acting
pub mod Stepping
pub mod Opening
