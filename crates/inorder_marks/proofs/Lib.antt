pub mod MarkTests
