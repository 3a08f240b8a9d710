pub mod SeenDesk
pub mod Seen
pub mod Changed
pub mod Happening
