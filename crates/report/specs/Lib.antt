pub mod Forms
pub mod Laws
pub mod Reports
pub mod Told
pub mod Floors
pub mod Texts
