pub mod Starts
pub mod Tables
pub mod EntryFaults
pub mod FormFaults
