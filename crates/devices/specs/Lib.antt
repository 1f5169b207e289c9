pub mod Streams
pub mod Results
pub mod Folder
pub mod Whole
