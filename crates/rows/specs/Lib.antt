pub mod Labels
pub mod Limits
pub mod Stored
