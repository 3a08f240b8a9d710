pub mod History
pub mod Calls
pub mod Laws
pub mod Induction
