pub mod Round
pub mod Places
pub mod Pictures
pub mod Examples
