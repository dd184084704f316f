pub use Rattle.refine_calls.proofs.class_rules_laws
pub use Rattle.refine_calls.proofs.inverse_rules_laws
pub use Rattle.refine_calls.proofs.meaning_sound_laws
pub use Rattle.meaning_inverse.proofs as meaning_inverse_laws
pub use Rattle.refine_calls.proofs.paired_code_laws
pub use Rattle.refine_calls.proofs.refine_form_laws
pub use Rattle.expr_uncompute.proofs as expr_uncompute_laws
pub use Rattle.refine_calls.proofs as refine_calls_laws
pub mod Names
pub mod FrameReads
pub mod WordsRead
pub mod ExpressionsRead
pub mod ValuesFit
pub mod ArraysTold
pub mod CellsWritten
pub mod FramesWritten
pub mod SameReadings
pub mod UpdatesFit
pub mod SwapsFit
pub mod Stated
