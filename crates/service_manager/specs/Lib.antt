pub mod Address
pub mod Notice
pub mod Watchdog
