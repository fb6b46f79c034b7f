pub mod Signed
pub mod Ripeness
pub mod Flagging
pub mod OneScan
pub mod Scan
pub mod Takes
pub mod AsFound
