-- states of two limits that differ in the pages and the records that there can be
pub mod Like
pub mod Closing
pub mod Fetches
pub mod Effects
pub mod Steps
