pub mod Order
pub mod Coming
