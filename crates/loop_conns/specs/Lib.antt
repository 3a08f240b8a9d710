pub mod Tied
pub mod Woven
pub mod Going
pub mod Ended
pub mod Stopped
