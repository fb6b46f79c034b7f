pub mod Briefly
