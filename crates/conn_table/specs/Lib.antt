pub mod Rows
pub mod Slots
pub mod Places
pub mod Table
pub mod Lending
pub mod Servable
