pub mod Lines
pub mod Lengths
pub mod Rows
pub mod Printed
