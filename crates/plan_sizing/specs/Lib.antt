pub mod Sizing
pub mod Shown
pub mod Flaws
pub mod Hiring
