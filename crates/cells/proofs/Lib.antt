pub mod Words
pub mod Firsts
pub mod Grid
pub mod Face
pub mod Filling
pub mod Stack
pub mod Contracts
pub mod Refused
