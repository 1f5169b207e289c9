pub mod Unread
pub mod Unserved
