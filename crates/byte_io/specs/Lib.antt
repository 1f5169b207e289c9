pub mod Deadline
pub mod Device
pub mod Sides
pub mod Memory
pub mod Script
pub mod Played
pub mod Pieces
