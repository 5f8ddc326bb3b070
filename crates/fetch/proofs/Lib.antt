pub mod InState
pub mod Comparing
pub mod Fetching
