pub mod Passes
pub mod Lines
pub mod Step
pub mod Transcript
pub mod Law
pub mod Run
