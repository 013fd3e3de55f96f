pub mod Names
pub mod Words
