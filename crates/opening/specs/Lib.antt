pub mod Changed
pub mod Reach
pub mod Quick
pub mod Parts
pub mod Rust
