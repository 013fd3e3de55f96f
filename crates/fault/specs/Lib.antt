pub mod Layers
pub mod Lines
pub mod Places
pub mod Firsts
