pub mod Stepping
pub mod Answering
pub mod Carried
pub mod CallsJudged
