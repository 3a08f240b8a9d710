pub mod Parts
pub mod Known
pub mod KnownAt
pub mod Rows
