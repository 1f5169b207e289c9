pub mod Masks
pub mod Status
pub mod Reading
