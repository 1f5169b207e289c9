pub mod Farms
pub mod Sizes
pub mod CheckSizes
