pub mod Named
pub mod Touched
pub mod Replay
pub mod Merged
pub mod Links
pub mod Cases
pub mod Laws
