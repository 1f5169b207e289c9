pub mod Words
pub mod Required
