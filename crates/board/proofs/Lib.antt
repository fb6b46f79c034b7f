pub mod Flowing
pub mod Outcomes
pub mod Opened
pub mod Stepping
pub mod Pair
