pub mod Making
pub mod Outcomes
pub mod Places
pub mod Given
