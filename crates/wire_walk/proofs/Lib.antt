pub mod Faults
pub mod Lists
pub mod Opened
pub mod Written
pub mod PassedOver
pub mod AtPlaces
