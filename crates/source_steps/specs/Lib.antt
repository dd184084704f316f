pub use Rattle.source_store.specs.rpp_words
pub use Rattle.class_table.specs.rpp_tree
pub use Rattle.source_store.specs.class_rules
pub use Rattle.source_store.specs.inverse_rules
pub use Rattle.source_store.specs.roopl_semantics
pub use Rattle.source_store.specs.meaning_points
pub use Rattle.source_store.specs.meaning_machine
pub use Rattle.source_store.specs as source_store
pub use Rattle.source_store.specs.buddy_book
pub mod CellView
pub mod Marks
pub mod Metered
pub mod StateView
pub mod Apart
pub mod Ends
