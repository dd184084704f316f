pub mod Living
pub mod Imaging
