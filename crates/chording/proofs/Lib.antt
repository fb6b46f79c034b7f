pub mod Playing
pub mod Seeking
pub mod Chording
