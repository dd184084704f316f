pub use Rattle.refine_calls.specs.rpp_tree
pub use Rattle.refine_calls.specs.class_rules
pub use Rattle.meaning_inverse.specs.inverse_rules
pub use Rattle.refine_calls.specs.pisa_isa
pub use Rattle.refine_calls.specs.code_conventions
pub use Rattle.refine_calls.specs.roopl_semantics
pub use Rattle.refine_calls.specs.meaning_sound
pub use Rattle.meaning_inverse.specs as meaning_inverse
pub use Rattle.refine_calls.specs.paired_code
pub use Rattle.refine_calls.specs.refine_form
pub use Rattle.expr_uncompute.specs.code_scope
pub use Rattle.expr_uncompute.specs.register_expressions
pub use Rattle.expr_uncompute.specs as expr_uncompute
pub use Rattle.refine_calls.specs.method_calls
pub use Rattle.refine_calls.specs as refine_calls
pub mod Typing
pub mod Laws
