pub mod Pairs
pub mod TextLines
pub mod LineForms
pub mod Reading
pub mod Printing
pub mod Plans
pub mod Drafts
pub mod Sound
