pub mod Widths
pub mod Halves
pub mod Fronts
pub mod Numbers
pub mod Mapped
pub mod Groups
pub mod Varints
pub mod Counted
