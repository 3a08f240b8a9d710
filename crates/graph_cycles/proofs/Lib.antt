pub mod Falling
pub mod Rows
pub mod Deciding
