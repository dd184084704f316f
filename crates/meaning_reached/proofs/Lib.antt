pub use Rattle.meaning_sound.proofs.rpp_words_laws
pub use Rattle.meaning_sound.proofs.rpp_tree_laws
pub use Rattle.meaning_sound.proofs.class_rules_laws
pub use Rattle.meaning_sound.proofs.inverse_rules_laws
pub use Rattle.meaning_sound.proofs.pisa_isa_laws
pub use Rattle.meaning_sound.proofs.buddy_book_laws
pub use Rattle.meaning_sound.proofs.roopl_semantics_laws
pub use Rattle.meaning_sound.proofs as meaning_sound_laws
pub mod Rooted
pub mod Changes
pub mod Creations
pub mod Callings
pub mod Wiring
pub mod Reaching
pub mod Numbering
pub mod Final
pub mod SameReports
