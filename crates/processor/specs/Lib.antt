pub mod Tables
pub mod Bound
pub mod Seen
pub mod Offices
pub mod Results
pub mod Holding
