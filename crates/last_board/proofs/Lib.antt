pub mod Played
pub mod Showable
pub mod Told
