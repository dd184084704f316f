pub use Rattle.meaning_sound.proofs.rpp_words_laws
pub use Rattle.meaning_sound.proofs.class_rules_laws
pub use Rattle.meaning_sound.proofs.inverse_rules_laws
pub use Rattle.meaning_sound.proofs.pisa_isa_laws
pub use Rattle.meaning_sound.proofs.buddy_book_laws
pub use Rattle.meaning_sound.proofs.roopl_semantics_laws
pub use Rattle.meaning_sound.proofs as meaning_sound_laws
pub mod Heaps
pub mod Memory
pub mod Opens
pub mod Tells
pub mod Addresses
pub mod Removed
pub mod Making
pub mod Entering
pub mod ExpressionWords
pub mod TableWords
pub mod Stated
