pub mod LikeParts
pub mod Tables
pub mod OfServices
pub mod Tied
pub mod LookedOnce
pub mod Joined
