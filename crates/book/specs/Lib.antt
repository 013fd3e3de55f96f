pub mod Likeness
pub mod Laws
pub mod Faults
pub mod Verdicts
pub mod Books
pub mod Vocabularies
