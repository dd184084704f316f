pub mod Bounds
pub mod Room
pub mod Told
pub mod Fields
pub mod IntFields
