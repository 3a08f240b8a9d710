pub mod Taking
pub mod Tables
pub mod Counting
