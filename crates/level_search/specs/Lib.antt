pub mod Filled
pub mod Levels
pub mod Found
pub mod Answered
pub mod Steady
pub mod Paid
pub mod Spread
