pub mod Reading
pub mod Accepting
pub mod Writing
pub mod Book
pub mod Prefix
pub mod Onward
pub mod Places
pub mod Before
