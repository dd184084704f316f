pub mod Walked
pub mod Lining
pub mod Telling
pub mod ExplainTargets
