pub mod Turns
pub mod After
pub mod Enough
