pub use Rattle.refine_expressions.proofs.class_rules_laws
pub use Rattle.refine_expressions.proofs.inverse_rules_laws
pub use Rattle.refine_expressions.proofs.meaning_sound_laws
pub use Rattle.refine_expressions.proofs.paired_code_laws
pub use Rattle.refine_form.proofs as refine_form_laws
pub use Rattle.refine_expressions.proofs.expr_uncompute_laws
pub use Rattle.refine_expressions.proofs.refine_calls_laws
pub use Rattle.refine_expressions.proofs as refine_expressions_laws
pub mod Flags
pub mod Ifs
pub mod Choices
pub mod Repeats
pub mod Clauses
pub mod InScope
