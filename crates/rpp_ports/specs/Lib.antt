pub mod Ports
pub mod Memory
pub mod Failures
pub mod Shelves
pub mod Files
pub mod Events
pub mod Notes
