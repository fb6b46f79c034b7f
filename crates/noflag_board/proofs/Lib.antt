pub mod Moding
pub mod Stepping
pub mod Booking
pub mod Outcomes
pub mod Opened
