pub mod Run
pub mod Texts
