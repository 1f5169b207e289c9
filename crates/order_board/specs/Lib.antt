pub mod BoardRefusals
pub mod Posts
pub mod Rule
pub mod Seats
