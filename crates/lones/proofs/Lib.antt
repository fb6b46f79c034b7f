pub mod Lones
