pub mod Briefs
pub mod Flows
pub mod Runs
