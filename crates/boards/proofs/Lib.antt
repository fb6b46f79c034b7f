pub mod Scans
pub mod Tests
pub mod Faults
pub mod Fresh
