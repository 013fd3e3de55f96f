pub mod Arities
pub mod Calls
pub mod Faults
pub mod Promises
pub mod Runs
