pub mod Format
pub mod Fields
pub mod Check
pub mod Open
pub mod Load
