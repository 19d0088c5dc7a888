-- `Laws` holds a proof that code cites; nothing there need be believed.
pub mod Laws
pub mod Trailers
