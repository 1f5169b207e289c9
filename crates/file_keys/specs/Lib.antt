pub mod Tree
pub mod Hosts
pub mod Keys
