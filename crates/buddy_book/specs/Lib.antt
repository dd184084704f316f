pub use Rattle.rpp_words.specs as rpp_words
pub mod Book
pub mod Place
pub mod Shown
pub mod Stored
