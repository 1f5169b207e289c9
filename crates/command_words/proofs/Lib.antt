pub mod Rows
pub mod Chain
pub mod Number
pub mod Required
pub mod Levels
pub mod Flags
