mod Ordering
mod Ending
pub mod Tying
pub mod Weaving
mod Making
pub mod Standing
mod Going
mod Owing
mod Testing
mod TakingIn
mod Leaving
mod Resting
mod Replying
mod Admits
mod Handing
mod Settles
pub mod Stops
mod Noting
mod Opening
mod Asked
mod Halting
