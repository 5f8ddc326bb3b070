pub mod Laying
pub mod Stepping
pub mod Running
