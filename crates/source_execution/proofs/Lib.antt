pub use Rattle.source_checks.proofs.roopl_semantics_laws
pub use Rattle.source_checks.proofs.meaning_points_laws
pub use Rattle.source_checks.proofs.meaning_machine_laws
pub use Rattle.source_checks.proofs.source_steps_laws
pub mod Within
pub mod Accessed
pub mod Walked
pub mod Started
pub mod Leading
pub mod Failed
mod Called
