pub mod Answering
pub mod Shortness
pub mod Taking
pub mod Applying
pub mod Adding
pub mod Ending
pub mod Opening
pub mod Crews
