pub mod SentBytes
pub mod HeardBytes
pub mod Framing
pub mod Talking
pub mod Hanging
mod Exchanged
