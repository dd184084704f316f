pub use Rattle.source_execution.specs as source_execution
pub use Rattle.source_execution.specs.rpp_tree
pub use Rattle.pisa_scripts.specs.rpp_words
pub use Rattle.source_execution.specs.roopl_semantics
pub use Rattle.source_execution.specs.source_store
pub use Rattle.source_execution.specs.source_compared
pub use Rattle.source_execution.specs.source_checks
pub use Rattle.source_execution.specs.class_rules
pub use Rattle.meaning_reversed.specs.meaning_machine
pub use Rattle.pisa_scripts.specs as pisa_scripts
pub mod Watched
pub mod Valid
pub mod Courses
pub mod Ended
pub mod Walks
pub mod Placed
