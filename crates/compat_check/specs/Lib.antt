pub mod Plain
pub mod Tables
pub mod Fresh
pub mod Answered
pub mod Lines
