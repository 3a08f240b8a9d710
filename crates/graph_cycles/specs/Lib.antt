pub mod Walks
pub mod Certified
