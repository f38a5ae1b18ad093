pub mod Climbs
pub mod Grafts
pub mod Finds
pub mod Unions
pub mod Chains
