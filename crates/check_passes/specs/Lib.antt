pub mod Faults
pub mod Passed
pub mod Right
pub mod Exceptions
pub mod Given
pub mod Typed
