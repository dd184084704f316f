pub use Rattle.source_steps.proofs.meaning_machine_laws
pub use Rattle.source_steps.proofs as source_steps_laws
pub mod NextObject
