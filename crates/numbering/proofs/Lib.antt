pub mod Counts
pub mod Numbering
