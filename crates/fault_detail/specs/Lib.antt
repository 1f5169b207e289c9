pub mod Complaint
pub mod Detail
pub mod Pieces
