pub mod Steps
pub mod Places
pub mod Written
pub mod Encoded
pub mod Walks
pub mod Bounds
pub mod Never
pub mod Sets
pub mod TooMany
pub mod Added
pub mod Named
pub mod Plans
pub mod Retold
pub mod Enough
mod LinesBack
mod NamedBack
mod SetsBack
mod GrammarsBack
mod Grammars
