pub mod Steps
pub mod Tying
