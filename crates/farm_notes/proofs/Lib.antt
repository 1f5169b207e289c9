pub mod Copies
pub mod Numbered
pub mod ReadBack
