pub mod Class
pub mod Demand
pub mod Calls
pub mod Games
