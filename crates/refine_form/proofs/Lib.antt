pub use Rattle.refine_frame.proofs.rpp_words_laws
pub use Rattle.refine_frame.proofs.class_rules_laws
pub use Rattle.refine_frame.proofs.inverse_rules_laws
pub use Rattle.refine_frame.proofs.pisa_isa_laws
pub use Rattle.refine_frame.proofs.roopl_semantics_laws
pub use Rattle.refine_frame.proofs.meaning_sound_laws
pub use Rattle.paired_code.proofs as paired_code_laws
pub use Rattle.refine_frame.proofs as refine_frame_laws
pub mod Told
pub mod Rules
pub mod Rows
pub mod Holding
pub mod Blocks
pub mod Stated
pub mod Memories
