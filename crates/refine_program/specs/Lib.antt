pub use Rattle.refine_calls.specs.rpp_words
pub use Rattle.refine_calls.specs.rpp_tree
pub use Rattle.refine_calls.specs.class_rules
pub use Rattle.refine_calls.specs.pisa_isa
pub use Rattle.refine_calls.specs.code_conventions
pub use Rattle.static_layout.specs.roopl_semantics
pub use Rattle.refine_calls.specs.meaning_sound
pub use Rattle.refine_calls.specs.paired_code
pub use Rattle.refine_calls.specs.buddy_pisa
pub use Rattle.refine_calls.specs.refine_form
pub use Rattle.refine_calls.specs.method_calls
pub use Rattle.refine_calls.specs as refine_calls
pub mod Methods
pub mod Laws
