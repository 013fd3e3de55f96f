pub mod Asking
pub mod Told
