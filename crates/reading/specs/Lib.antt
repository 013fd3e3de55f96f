pub mod Faults
pub mod Stacks
pub mod Frames
pub mod Steps
pub mod Reads
