pub mod Fault
pub mod Ending
pub mod Mistake
pub mod ServicesMistake
pub mod Problem
pub mod Posing
pub mod Plan
pub mod Check
