pub mod Farm
pub mod Meaning
pub mod Place
pub mod Remarks
pub mod ServicesMeaning
pub mod Told
pub mod FarmTold
