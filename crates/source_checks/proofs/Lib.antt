pub use Rattle.source_blocks.proofs.roopl_semantics_laws
pub use Rattle.source_blocks.proofs.meaning_points_laws
pub use Rattle.source_blocks.proofs.meaning_machine_laws
pub use Rattle.source_blocks.proofs.source_steps_laws
pub use Rattle.source_blocks.proofs as source_blocks_laws
pub mod AtEnds
pub mod Undone
pub mod Looking
