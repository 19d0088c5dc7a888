pub mod Answers
pub mod Forms
pub mod Joined
pub mod Lists
pub mod RoundTrip
pub mod Scan
