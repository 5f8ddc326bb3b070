pub mod Inserting
pub mod Keys
pub mod Rows
pub mod Putting
pub mod InState
pub mod Kept
pub mod Parts
