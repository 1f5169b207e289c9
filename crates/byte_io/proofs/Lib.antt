pub mod Devices
pub mod Scripts
pub mod Pieces
