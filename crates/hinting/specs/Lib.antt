pub mod Hints
pub mod History
pub mod Twins
