pub mod Phases
pub mod Tables
pub mod Progress
pub mod Weights
