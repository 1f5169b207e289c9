pub mod Taken
pub mod Posed
pub mod Counts
