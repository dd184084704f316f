pub use Rattle.rpp_words.specs as rpp_words
pub mod Table
pub mod Machine
pub mod Directions
pub mod Image
pub mod Runs
pub mod Ends
pub mod Loaded
pub mod Flipped
pub mod Notes
