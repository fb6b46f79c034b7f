pub mod Sums
pub mod Moves
pub mod Secret
pub mod Played
pub mod Rules
