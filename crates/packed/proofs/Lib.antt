pub mod Signs
pub mod Reading
pub mod Telling
