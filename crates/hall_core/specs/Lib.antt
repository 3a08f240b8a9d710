pub mod Queues
pub mod Meant
pub mod Answered
pub mod Asked
pub mod Following
pub mod NextSteps
