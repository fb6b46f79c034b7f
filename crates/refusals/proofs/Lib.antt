pub mod Refusals
pub mod Faults
pub mod Places
