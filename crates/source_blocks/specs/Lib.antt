pub use Rattle.source_steps.specs.rpp_words
pub use Rattle.source_steps.specs.rpp_tree
pub use Rattle.source_steps.specs.class_rules
pub use Rattle.source_steps.specs.inverse_rules
pub use Rattle.source_steps.specs.roopl_semantics
pub use Rattle.source_steps.specs.meaning_points
pub use Rattle.source_steps.specs.meaning_machine
pub use Rattle.source_steps.specs.source_store
pub use Rattle.source_steps.specs as source_steps
pub mod Blocks
pub mod Tasks
pub mod Opens
pub mod Turns
pub mod Runs
pub mod Endings
pub mod Requests
pub mod Stops
