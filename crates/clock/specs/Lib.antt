pub mod Clocks
