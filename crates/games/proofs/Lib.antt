pub mod Telling
pub mod Games
