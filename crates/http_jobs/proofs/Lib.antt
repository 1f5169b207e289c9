pub mod Coming
pub mod Asking
pub mod Exchanges
pub mod Refusals
pub mod Uses
pub mod Accepted
pub mod Meanwhile
