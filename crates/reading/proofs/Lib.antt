pub mod Steps
pub mod Progress
pub mod Settled
