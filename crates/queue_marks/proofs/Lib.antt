pub mod Ringing
