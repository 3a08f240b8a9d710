pub mod FileJournals
pub mod Places
pub mod Served
pub mod Answered
pub mod Steps
