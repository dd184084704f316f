pub use Rattle.refine_form.specs.rpp_words
pub use Rattle.refine_form.specs.rpp_tree
pub use Rattle.refine_form.specs.inverse_rules
pub use Rattle.refine_form.specs.pisa_isa
pub use Rattle.refine_form.specs.code_conventions
pub use Rattle.refine_form.specs.roopl_semantics
pub use Rattle.refine_form.specs.meaning_sound
pub use Rattle.refine_form.specs.paired_code
pub use Rattle.refine_form.specs.refine_frame
pub use Rattle.refine_form.specs as refine_form
pub mod Visible
