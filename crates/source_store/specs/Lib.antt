pub use Rattle.meaning_machine.specs.rpp_words
pub use Rattle.meaning_machine.specs.rpp_tree
pub use Rattle.meaning_machine.specs.class_rules
pub use Rattle.meaning_machine.specs.inverse_rules
pub use Rattle.meaning_machine.specs.buddy_book
pub use Rattle.meaning_machine.specs.roopl_semantics
pub use Rattle.meaning_machine.specs.meaning_points
pub use Rattle.meaning_machine.specs as meaning_machine
pub mod ValueView
pub mod HeapView
