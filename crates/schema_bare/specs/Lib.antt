pub mod ById
pub mod GivenLists
pub mod StructsAdded
pub mod Ranks
