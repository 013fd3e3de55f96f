pub mod Telling
pub mod Arities
