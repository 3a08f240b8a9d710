pub mod Following
pub mod Values
pub mod Settling
pub mod Messages
pub mod Whole
pub mod Splitting
pub mod Handing
