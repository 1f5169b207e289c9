pub mod Workers
pub mod Views
pub mod Slots
pub mod Called
pub mod Cuts
pub mod Ends
mod Histories
pub mod Promised
