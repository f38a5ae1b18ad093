pub mod Orders
pub mod Insertions
pub mod Sorting
pub mod Sinks
