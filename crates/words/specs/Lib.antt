pub mod Houses
pub mod Words
