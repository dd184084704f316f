pub mod Fetched
pub mod Finished
