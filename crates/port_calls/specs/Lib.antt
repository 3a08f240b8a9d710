pub mod Exchanging
pub mod Asked
pub mod Kinds
pub mod HeardText
pub mod Calls
pub mod PortCallOf
pub mod Called
pub mod Steps
