pub mod Laws
pub mod Rules
