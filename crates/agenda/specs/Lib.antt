pub mod Order
pub mod Entries
pub mod Scopes
pub mod Laws
pub mod Examples
