pub mod Telling
pub mod Acting
pub mod ActingOnShared
