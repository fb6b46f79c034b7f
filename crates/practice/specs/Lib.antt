pub mod Practice
pub mod Told
