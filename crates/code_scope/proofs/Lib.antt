pub use Rattle.refine_form.proofs.rpp_words_laws
pub use Rattle.refine_form.proofs.meaning_sound_laws
pub use Rattle.refine_form.proofs.paired_code_laws
pub use Rattle.refine_form.proofs.refine_frame_laws
pub use Rattle.refine_form.proofs as refine_form_laws
pub use Rattle.refine_form.proofs.pisa_isa_laws
pub mod Fields
pub mod Parameters
