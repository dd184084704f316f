pub use Rattle.source_blocks.specs.rpp_words
pub use Rattle.source_blocks.specs.rpp_tree
pub use Rattle.source_blocks.specs.class_rules
pub use Rattle.source_blocks.specs.inverse_rules
pub use Rattle.source_blocks.specs.roopl_semantics
pub use Rattle.source_blocks.specs.meaning_points
pub use Rattle.source_blocks.specs.meaning_machine
pub use Rattle.source_blocks.specs.source_store
pub use Rattle.source_blocks.specs.source_steps
pub use Rattle.source_blocks.specs as source_blocks
pub mod Endings
pub mod Steps
