pub mod Limits
pub mod Texts
pub mod Order
pub mod Words
pub mod Names
