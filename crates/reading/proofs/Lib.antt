mod Answered
mod Closed
mod Closings
mod Cuts
pub mod Exact
mod Listed
mod Passed
mod Sofar
mod Spelled
mod Taken
mod Worked
