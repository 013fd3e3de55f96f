pub mod Splits
pub mod Decimals
pub mod Lines
