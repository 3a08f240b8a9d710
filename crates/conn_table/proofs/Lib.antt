pub mod Ranks
pub mod Placing
pub mod Sizing
pub mod Lending
pub mod Rising
pub mod Servable
