pub mod Posts
pub mod Steps
