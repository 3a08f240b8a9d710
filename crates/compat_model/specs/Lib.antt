pub mod InOrder
pub mod Likeness
pub mod NamedThings
pub mod StructPairs
pub mod Faults
pub mod Breaks
pub mod KeptValues
pub mod Worked
