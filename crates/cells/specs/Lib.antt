pub mod Ground
pub mod Stack
pub mod Promises
