pub mod Notes
pub mod Routines
pub mod Endless
pub mod Subroutines
