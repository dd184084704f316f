pub use Rattle.rpp_words.specs as rpp_words
pub mod Generated
