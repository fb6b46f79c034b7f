pub mod Cells
pub mod Viewing
pub mod Outcomes
