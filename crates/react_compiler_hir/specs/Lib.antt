pub mod Rows
pub mod RowWords
pub mod Places
pub mod Numbers
pub mod Function
