pub mod Taken
pub mod Examining
