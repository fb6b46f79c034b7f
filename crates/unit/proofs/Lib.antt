pub mod Bytes
pub mod Outcomes
pub mod Making
