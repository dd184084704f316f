mod Carried
pub mod Early
pub mod Targets
pub mod Placed
pub mod OfTold
pub mod Held
pub mod Answered
