-- `Laws` holds proofs that code cites; nothing there need be believed.
pub mod Laws
pub mod Payments
