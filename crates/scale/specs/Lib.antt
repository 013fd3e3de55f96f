pub mod Told
pub mod Scales
pub mod Degrees
pub mod Faults
pub mod Laws
pub mod DegreesLemmas
