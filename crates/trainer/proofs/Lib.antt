pub mod Firsts
pub mod Hints
pub mod Scoring
pub mod Outcomes
