pub mod Letters
pub mod Spelled
