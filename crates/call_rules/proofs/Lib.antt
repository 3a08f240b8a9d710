pub mod Plainness
pub mod TextMaps
