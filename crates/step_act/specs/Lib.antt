pub mod Telling
pub mod inner
