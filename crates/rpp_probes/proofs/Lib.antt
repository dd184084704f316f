pub use Rattle.rpp_words.proofs as rpp_words_laws
pub mod Told
pub mod Marking
pub mod Folds
pub mod Sure
