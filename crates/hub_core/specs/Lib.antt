pub mod Hub
pub mod Following
pub mod HubCalls
pub mod HubLoop
pub mod HubWork
