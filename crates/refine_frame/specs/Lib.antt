pub use Rattle.meaning_sound.specs.rpp_words
pub use Rattle.meaning_sound.specs.rpp_tree
pub use Rattle.meaning_sound.specs.class_rules
pub use Rattle.meaning_sound.specs.inverse_rules
pub use Rattle.meaning_sound.specs.pisa_isa
pub use Rattle.meaning_sound.specs.code_conventions
pub use Rattle.meaning_sound.specs.buddy_book
pub use Rattle.meaning_sound.specs.roopl_semantics
pub use Rattle.meaning_sound.specs as meaning_sound
pub mod Open
pub mod Laws
