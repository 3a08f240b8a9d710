pub mod Placing
pub mod Serving
pub mod Stepping
pub mod Legally
