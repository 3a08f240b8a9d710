pub mod Lengths
pub mod Rests
pub mod Served
pub mod Ending
pub mod Asked
pub mod Going
pub mod Held
pub mod Left
