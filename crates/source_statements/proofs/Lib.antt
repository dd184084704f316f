pub use Rattle.source_blocks.proofs.roopl_semantics_laws
pub use Rattle.source_blocks.proofs.meaning_points_laws
pub use Rattle.source_blocks.proofs.meaning_machine_laws
pub use Rattle.source_blocks.proofs.source_steps_laws
pub use Rattle.source_blocks.proofs as source_blocks_laws
pub mod Begun
pub mod Asking
pub mod Entered
pub mod Callee
pub mod Ended
pub mod Returned
pub mod Dispatched
pub mod Stepped
pub mod Stopped
