pub mod ById
pub mod Zipped
pub mod Adding
pub mod Serving
pub mod Filing
pub mod EnumValues
pub mod Ranked
