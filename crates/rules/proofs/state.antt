-- laws on clocks by holder, slots, copies, lists of fetches, lines of waiters, and sums that wrap
pub mod Holders
pub mod Slots
pub mod CopyWords
pub mod Skipping
pub mod Fetches
pub mod Lines
pub mod Waiters
pub mod LineOf
pub mod WithoutValue
pub mod Outlines
pub mod WrappedSums
