pub mod Farm
pub mod Manager
pub mod ServiceJobs
pub mod Serving
