-- the runs that are computed
pub mod Listing
pub mod BenchFaults
pub mod FromStart
pub mod JudgedRuns
pub mod PinnedRuns
pub mod ClosingFirst
pub mod OneInterval
pub mod StoredCases
