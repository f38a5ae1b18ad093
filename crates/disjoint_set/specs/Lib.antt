pub mod Forest
pub mod Once
pub mod Joins
pub mod Classes
pub mod Laws
pub mod Examples
