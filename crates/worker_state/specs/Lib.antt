pub mod Limits
pub mod Slots
pub mod OrderParts
pub mod Orders
pub mod Causes
pub mod Registration
