pub mod Splitting
pub mod Fronting
pub mod Plainly
pub mod Seeing
pub mod Picking
