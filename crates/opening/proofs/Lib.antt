pub mod OpeningTests
pub mod Opening
pub mod Following
pub mod Copies
