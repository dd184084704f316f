pub use Rattle.object_codegen.specs.rpp_tree
pub use Rattle.object_codegen.specs.class_rules
pub use Rattle.object_codegen.specs.pisa_isa
pub use Rattle.object_codegen.specs.code_conventions
pub use Rattle.object_codegen.specs.meaning_sound
pub use Rattle.object_codegen.specs.paired_code
pub use Rattle.object_codegen.specs.refine_form
pub use Rattle.object_codegen.specs.code_scope
pub use Rattle.object_codegen.specs.register_expressions
pub use Rattle.object_codegen.specs.expr_uncompute
pub use Rattle.refine_expressions.specs.refine_calls
pub use Rattle.refine_expressions.specs as refine_expressions
pub use Rattle.object_codegen.specs as object_codegen
pub mod CopyLaws
pub mod OpenLaws
pub mod MadeLaws
