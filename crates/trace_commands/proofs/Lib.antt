pub mod Followed
pub mod TraceTargets
