pub use Rattle.source_checks.specs.rpp_words
pub use Rattle.source_statements.specs.rpp_tree
pub use Rattle.source_checks.specs.class_rules
pub use Rattle.source_checks.specs.roopl_semantics
pub use Rattle.source_checks.specs.meaning_points
pub use Rattle.source_checks.specs.meaning_machine
pub use Rattle.source_checks.specs.source_store
pub use Rattle.source_checks.specs.source_steps
pub use Rattle.source_statements.specs as source_statements
pub use Rattle.source_checks.specs as source_checks
pub use Rattle.source_checks.specs.source_compared
pub mod Standing
pub mod Variables
pub mod Falls
pub mod FailureLaws
pub mod Calls
pub mod CallsView
