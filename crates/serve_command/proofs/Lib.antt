pub mod Kept
pub mod ServiceJobs
