-- one word over a fetch and over time
pub mod WordOfRecords
pub mod SortedRecords
pub mod SelectedRecords
pub mod FetchedWord
pub mod NewRecords
pub mod Values
pub mod ValuesOverTime
pub mod WordsFit
