pub use Rattle.source_blocks.specs.rpp_words
pub use Rattle.source_blocks.specs.rpp_tree
pub use Rattle.source_blocks.specs.class_rules
pub use Rattle.source_blocks.specs.roopl_semantics
pub use Rattle.source_blocks.specs.meaning_points
pub use Rattle.source_blocks.specs.meaning_machine
pub use Rattle.source_blocks.specs.source_store
pub use Rattle.source_blocks.specs.source_steps
pub use Rattle.source_blocks.specs as source_blocks
pub use Rattle.source_compared.specs as source_compared
pub mod Checks
pub mod Failures
pub mod TestedView
