pub mod Served
pub mod Untelling
