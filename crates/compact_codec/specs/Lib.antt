pub mod Codes
pub mod Numbers
pub mod Reading
pub mod Faults
pub mod Spelling
pub mod Written
pub mod Examples
