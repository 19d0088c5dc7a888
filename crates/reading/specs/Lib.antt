pub mod ByTally
pub mod Exact
pub mod Reading
pub mod Records
pub mod Worked
