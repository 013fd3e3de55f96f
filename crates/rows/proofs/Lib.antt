pub mod Places
pub mod Renaming
pub mod Searches
