pub mod Rows
pub mod Left
pub mod Turns
pub mod Counts
pub mod Unserved
pub mod Solves
