pub mod Capped
pub mod Laws
