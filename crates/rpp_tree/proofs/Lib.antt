pub use Rattle.rpp_words.proofs as rpp_words_laws
pub mod Blocks
pub mod Statements
pub mod Walks
