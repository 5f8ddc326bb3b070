pub mod Limits
pub mod Places
pub mod Files
pub mod inner
pub mod Refused
