pub mod Added
pub mod Books
pub mod Held
pub mod Laws
pub mod Search
