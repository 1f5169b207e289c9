pub mod Setting
pub mod Limits
