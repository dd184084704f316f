pub use Rattle.rpp_words.proofs as rpp_words_laws
pub mod TakeGive
pub mod Orders
pub mod LeastOrder
pub mod Table
pub mod Kept
pub mod Requests
pub mod StoredLaws
pub mod BookProofs
pub mod Beginning
mod Rows
