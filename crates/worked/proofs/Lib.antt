pub mod Lexicon
pub mod Cases
