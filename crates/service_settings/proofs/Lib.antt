pub mod Sendable
pub mod Machines
pub mod Blank
