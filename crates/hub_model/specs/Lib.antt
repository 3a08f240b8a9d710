pub mod HubState
pub mod HubRule
pub mod HubMay
pub mod Seen
pub mod OneHall
pub mod Talk
