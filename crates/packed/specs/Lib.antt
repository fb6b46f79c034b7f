pub mod Packed
pub mod Line
