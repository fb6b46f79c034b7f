pub mod Highest
pub mod Joining
pub mod Parts
