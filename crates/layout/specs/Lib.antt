pub mod Places
pub mod Kinds
pub mod Entries
pub mod Forms
pub mod Faults
pub mod Lexicons
