pub mod Tables
pub mod Sums
mod Ranges
pub mod Sound
pub mod Steps
pub mod Refusals
pub mod Calls
pub mod Lasting
pub mod Booked
pub mod Grabbers
pub mod Told
mod Handed
pub mod Ordered
mod Inputs
