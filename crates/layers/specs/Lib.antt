pub mod Floors
pub mod Dialects
pub mod Tables
pub mod Verdicts
pub mod Spoken
pub mod Floored
