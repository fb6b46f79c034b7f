pub mod Vouched
