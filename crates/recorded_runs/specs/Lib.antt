pub mod Recorded
pub mod Answered
pub mod OneConnection
pub mod Refusals
pub mod Steps
pub mod ServedScripts
pub mod Summaries
pub mod CallLines
