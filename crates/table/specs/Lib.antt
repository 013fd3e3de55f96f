pub mod Calls
pub mod Deepening
pub mod Equating
pub mod Joined
pub mod Joining
pub mod Sheets
pub mod Uniformity
pub mod Verdicts
