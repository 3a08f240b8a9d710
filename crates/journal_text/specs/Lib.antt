pub mod Buffers
pub mod EntryReading
pub mod EntryText
pub mod JournalStates
pub mod LineOf
pub mod Lines
pub mod Segments
pub mod Spooled
