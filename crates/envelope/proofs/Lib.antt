pub mod Appending
pub mod Pieces
pub mod CompactHeads
pub mod Heads
pub mod ReplyHeads
