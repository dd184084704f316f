pub use Rattle.refine_calls.proofs.class_rules_laws
pub use Rattle.refine_calls.proofs.pisa_isa_laws
pub use Rattle.static_layout.proofs.roopl_semantics_laws
pub use Rattle.refine_calls.proofs.meaning_sound_laws
pub use Rattle.static_layout.proofs as static_layout_laws
pub use Rattle.refine_calls.proofs.paired_code_laws
pub mod Entries
pub mod FewStatics
pub mod Tables
pub mod RunsFollow
pub mod ProgramStands
pub mod Stated
