pub use Rattle.refine_form.specs.rpp_tree
pub use Rattle.refine_expressions.specs.class_rules
pub use Rattle.refine_expressions.specs.inverse_rules
pub use Rattle.refine_expressions.specs.pisa_isa
pub use Rattle.refine_expressions.specs.code_conventions
pub use Rattle.refine_expressions.specs.roopl_semantics
pub use Rattle.refine_expressions.specs.meaning_sound
pub use Rattle.refine_expressions.specs.paired_code
pub use Rattle.refine_form.specs as refine_form
pub use Rattle.refine_expressions.specs.code_scope
pub use Rattle.refine_expressions.specs.register_expressions
pub use Rattle.refine_expressions.specs.expr_uncompute
pub use Rattle.refine_expressions.specs.method_calls
pub use Rattle.refine_expressions.specs.refine_calls
pub use Rattle.refine_expressions.specs as refine_expressions
pub mod Branches
pub mod Laws
