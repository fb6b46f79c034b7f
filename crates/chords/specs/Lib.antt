pub mod Fell
pub mod Collected
