pub mod Lifted
pub mod Demanded
pub mod SideBySide
pub mod Requested
