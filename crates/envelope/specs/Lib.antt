pub mod Said
pub mod Spelling
pub mod Readout
pub mod Exception
