pub mod Tally
pub mod Rules
pub mod Marks
