pub mod Firsts
pub mod Checks
