pub mod Jobs
pub mod Orders
