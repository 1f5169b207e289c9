pub mod Relaxed
pub mod Least
pub mod Stranded
