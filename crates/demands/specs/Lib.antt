pub mod Answered
pub mod Demands
pub mod SideBySide
pub mod Requests
