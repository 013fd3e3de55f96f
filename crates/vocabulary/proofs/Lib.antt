pub mod Spellings
pub mod Words
pub mod Filling
