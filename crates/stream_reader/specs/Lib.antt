pub mod Stages
pub mod Reading
pub mod Tied
