pub mod Turns
pub mod Jobs
pub mod Crew
pub mod Ends
