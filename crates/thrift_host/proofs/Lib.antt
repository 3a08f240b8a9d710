pub mod Lines
pub mod Ran
pub mod Shared
pub mod Told
pub mod Served
pub mod Worked
pub mod Checked
pub mod Compared
pub mod Called
pub mod Unread
pub mod Asked
mod BoundServices
mod EntryLines
mod Ended
mod Completed
