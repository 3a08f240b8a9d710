pub mod Clients
pub mod ClientOf
pub mod Asking
pub mod Hearing
pub mod HeardFaults
pub mod HeardOf
pub mod Worked
