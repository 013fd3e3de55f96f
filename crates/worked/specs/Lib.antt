pub mod Lexicon
pub mod Cases
pub mod Worked
