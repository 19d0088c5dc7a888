-- `Admitted` holds lemmas for the laws that code cites; nothing there need be believed.
pub mod Admitted
pub mod Forms
pub mod Kinds
pub mod Layouts
pub mod RoundTrips
