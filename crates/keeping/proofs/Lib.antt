pub mod Reading
pub mod Slots
pub mod Keeps
