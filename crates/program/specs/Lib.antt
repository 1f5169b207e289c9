pub mod Carrying
pub mod Program
