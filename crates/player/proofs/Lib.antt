pub mod Refusing
pub mod Lending
