pub mod Before
pub mod Motions
