pub mod Orders
pub mod Listings
pub mod Equality
