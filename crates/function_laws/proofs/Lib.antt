pub mod Passed
pub mod Walked
pub mod Numbering
pub mod Naming
pub mod Following
pub mod Passing
