pub mod ByteDesk
pub mod Untold
