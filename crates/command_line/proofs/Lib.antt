mod Digits
mod Pairing
mod Rows
mod Table
mod Fitness
mod Turns
mod Telling
mod Sorts
mod OptionsNext
mod Beside
mod FlagWords
mod FlaglessWords
mod Ends
mod Naming
mod Asking
pub mod WordBounds
