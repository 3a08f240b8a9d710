pub mod Known
pub mod Exceptions
pub mod SpotNumbers
pub mod Rows
pub mod Inherited
