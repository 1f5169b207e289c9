pub mod Lines
pub mod Told
pub mod Grown
pub mod Text
pub mod Reading
pub mod Drafts
pub mod Law
pub mod Grammar
