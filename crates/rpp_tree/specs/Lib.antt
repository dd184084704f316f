pub use Rattle.rpp_words.specs as rpp_words
pub mod Tree
pub mod Views
pub mod Bare
pub mod Names
pub mod Places
pub mod Parts
pub mod Numbers
pub mod Limits
pub mod Refusal
