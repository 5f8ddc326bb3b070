pub mod Adding
pub mod Posting
