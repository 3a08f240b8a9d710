pub mod Limits
pub mod Seats
pub mod Weight
pub mod Past
pub mod Tickets
pub mod Steps
pub mod Sums
pub mod Baton
