pub mod Parts
pub mod Laid
pub mod Written
pub mod Before
