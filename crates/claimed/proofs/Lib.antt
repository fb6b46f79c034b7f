pub mod Rows
pub mod Checks
pub mod Writes
pub mod Longer
