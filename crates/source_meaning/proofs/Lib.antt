pub use Rattle.source_execution.proofs.roopl_semantics_laws
pub use Rattle.source_execution.proofs.meaning_points_laws
pub use Rattle.meaning_inverse.proofs.meaning_sound_laws
pub use Rattle.meaning_inverse.proofs.meaning_reached_laws
pub use Rattle.source_execution.proofs.source_steps_laws
pub mod Ending
pub mod Numbering
