pub mod Farms
pub mod Numbered
pub mod Refused
