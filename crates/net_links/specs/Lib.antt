pub mod Account
pub mod Transfers
pub mod Settling
pub mod Watching
pub mod Piping
pub mod Bound
