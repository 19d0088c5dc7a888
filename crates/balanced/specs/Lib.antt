pub mod Balanced
pub mod Laws
