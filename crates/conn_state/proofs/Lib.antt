pub mod Keeps
pub mod Lists
pub mod Partials
pub mod Pieces
pub mod Whole
pub mod Written
