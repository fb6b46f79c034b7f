pub mod Hints
pub mod Safety
pub mod History
pub mod Twins
