pub mod Fixed
pub mod Decoding
pub mod LowFirst
pub mod Varint
pub mod Zigzag
pub mod Encoded
