mod Lengths
mod Heads
pub mod Framed
pub mod Parts
pub mod Found
pub mod Refused
mod Invoked
mod Replied
pub mod SoundAgain
pub mod AsDesk
pub mod SoundExample
pub mod ReadBack
