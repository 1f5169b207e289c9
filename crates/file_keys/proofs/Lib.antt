pub mod Addresses
pub mod Ranges
pub mod Maps
