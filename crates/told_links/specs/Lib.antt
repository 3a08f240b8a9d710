pub mod Shown
pub mod Same
pub mod Moved
pub mod Noted
pub mod Telling
