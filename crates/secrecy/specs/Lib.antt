pub mod Demand
pub mod Witness
pub mod Needed
