pub mod Locking
pub mod Acting
