pub mod HubSteps
pub mod Turns
