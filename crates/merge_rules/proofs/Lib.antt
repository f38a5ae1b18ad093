pub mod Classes
pub mod Members
pub mod Tables
pub mod Hulls
pub mod Widening
