pub mod Encoding
pub mod Errors
pub mod Listed
