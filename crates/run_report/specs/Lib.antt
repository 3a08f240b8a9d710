pub mod Entries
pub mod Written
pub mod Pieces
pub mod Summary
