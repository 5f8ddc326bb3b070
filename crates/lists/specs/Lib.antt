pub mod Tables
pub mod Until
