pub mod Marks
pub mod Posing
pub mod Written
pub mod Examining
