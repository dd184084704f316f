pub use Rattle.source_steps.proofs.rpp_tree_laws
pub use Rattle.source_steps.proofs.class_rules_laws
pub use Rattle.source_steps.proofs.roopl_semantics_laws
pub use Rattle.source_steps.proofs.meaning_points_laws
pub use Rattle.source_steps.proofs.meaning_machine_laws
pub use Rattle.source_steps.proofs as source_steps_laws
pub mod Blocks
pub mod TurnedKinds
pub mod Around
pub mod Opened
pub mod Last
pub mod Scoped
pub mod Stopping
