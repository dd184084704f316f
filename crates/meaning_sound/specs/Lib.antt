pub use Rattle.roopl_semantics.specs.rpp_words
pub use Rattle.roopl_semantics.specs.rpp_tree
pub use Rattle.roopl_semantics.specs.class_rules
pub use Rattle.roopl_semantics.specs.inverse_rules
pub use Rattle.roopl_semantics.specs.pisa_isa
pub use Rattle.roopl_semantics.specs.code_conventions
pub use Rattle.roopl_semantics.specs.buddy_book
pub use Rattle.roopl_semantics.specs as roopl_semantics
pub mod Sound
pub mod Plain
pub mod Kept
