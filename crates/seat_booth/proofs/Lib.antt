pub mod Weights
pub mod Moves
pub mod Made
pub mod Opened
pub mod Dealt
pub mod Ended
pub mod Added
