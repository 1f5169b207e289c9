pub mod Evidence
pub mod Notes
pub mod Relaxed
pub mod Sizes
