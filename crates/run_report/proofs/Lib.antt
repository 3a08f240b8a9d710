pub mod Ended
pub mod Taking
pub mod Listed
