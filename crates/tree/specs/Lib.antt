pub mod Families
pub mod Paths
pub mod Verdicts
pub mod Words
pub mod Tables
pub mod TreeLaws
pub mod Growth
