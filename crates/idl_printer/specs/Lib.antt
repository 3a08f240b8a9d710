pub mod Unplaced
pub mod Printed
pub mod ReadBack
