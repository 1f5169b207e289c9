pub mod Farms
pub mod Answers
