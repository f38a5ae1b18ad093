pub mod Brackets
pub mod Marks
pub mod Ranges
pub mod Align
pub mod Meets
pub mod Cases
