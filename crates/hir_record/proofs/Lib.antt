pub mod Parts
pub mod FromFn
pub mod Rows
