pub mod Climbs
pub mod Single
pub mod Held
