pub mod Records
pub mod Runs
