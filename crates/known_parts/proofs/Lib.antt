pub mod Smaller
pub mod Knowing
pub mod KnownElements
pub mod KnownPairs
pub mod KnownFields
pub mod KnownWhole
