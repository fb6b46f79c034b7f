pub mod Plain
pub mod Drawing
pub mod Outcomes
