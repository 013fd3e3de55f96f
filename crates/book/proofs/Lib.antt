pub mod Arities
pub mod LawFaults
pub mod Verdicts
