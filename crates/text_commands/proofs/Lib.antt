pub mod InverseNames
pub mod TextTargets
