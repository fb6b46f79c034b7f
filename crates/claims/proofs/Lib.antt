pub mod Judging
pub mod Behind
pub mod Order
