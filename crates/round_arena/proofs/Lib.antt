pub mod Lists
pub mod Counts
pub mod Ranges
pub mod Seats
pub mod Places
pub mod Spans
