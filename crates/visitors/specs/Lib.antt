pub mod Arities
pub mod Shapes
pub mod Parts
pub mod Mentions
