pub mod FirstSpots
pub mod ValueFlaws
pub mod Thrown
pub mod InOrder
pub mod Endless
pub mod OnCycles
pub mod Repeated
