pub mod Words
pub mod Spellings
