pub mod Alls
pub mod Walking
