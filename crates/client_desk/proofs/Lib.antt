pub mod GoingOut
pub mod Sizes
mod Soundness
