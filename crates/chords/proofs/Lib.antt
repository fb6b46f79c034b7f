pub mod Useful
pub mod Gather
pub mod Steps
pub mod Chord
