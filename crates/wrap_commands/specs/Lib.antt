pub mod WrapNames
pub mod WrapShown
pub mod WrapPlans
pub mod WrapRun
