pub use Rattle.source_execution.specs.rpp_words
pub use Rattle.source_execution.specs.rpp_tree
pub use Rattle.source_execution.specs.class_rules
pub use Rattle.source_execution.specs.roopl_semantics
pub use Rattle.source_execution.specs.meaning_points
pub use Rattle.meaning_inverse.specs.meaning_sound
pub use Rattle.source_execution.specs.source_store
pub use Rattle.source_execution.specs.source_steps
pub use Rattle.source_execution.specs.source_statements
pub use Rattle.source_execution.specs as source_execution
pub mod Numbers
pub mod Outcomes
