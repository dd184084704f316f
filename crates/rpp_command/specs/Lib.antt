pub mod Plans
pub mod GivenPlans
pub mod Places
pub mod Causes
pub mod Answers
pub mod Serving
pub mod Told
