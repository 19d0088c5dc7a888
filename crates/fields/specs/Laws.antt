-- Proofs that each kind keeps its laws. They stand here, since the kinds cite them; nothing here need be believed.
pub mod Accounts
pub mod Dates
pub mod Fixed
pub mod Numbers
pub mod TextEnds
pub mod Texts
