pub mod Freeing
pub mod Cutting
pub mod Barring
pub mod Games
pub mod Lending
