pub mod Subject
pub mod Steps
pub mod Rows
pub mod Ranges
pub mod Walks
pub mod Tests
