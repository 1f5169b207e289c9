pub mod Marks
pub mod Walks
pub mod Held
pub mod Failed
