pub mod Beginning
pub mod Ending
