pub mod Bytes
pub mod Decimal
pub mod Hex
pub mod Line
pub mod Quoted
