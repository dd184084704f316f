pub use Rattle.meaning_machine.proofs.rpp_tree_laws
pub use Rattle.meaning_machine.proofs.class_rules_laws
pub use Rattle.meaning_machine.proofs.inverse_rules_laws
pub use Rattle.meaning_machine.proofs.roopl_semantics_laws
pub use Rattle.meaning_machine.proofs.meaning_points_laws
pub use Rattle.meaning_machine.proofs as meaning_machine_laws
pub mod Tables
pub mod Blocks
pub mod TakenBack
