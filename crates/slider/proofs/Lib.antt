pub mod Dragging
pub mod Outcomes
