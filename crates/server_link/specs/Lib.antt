pub mod Talk
pub mod Link
