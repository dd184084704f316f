pub mod Naming
pub mod Results
pub mod Words
pub mod Wrapping
pub mod WrapTargets
