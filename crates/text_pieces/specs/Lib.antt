pub mod Cuts
pub mod Numbers
pub mod Laws
pub mod Lines
