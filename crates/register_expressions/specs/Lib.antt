pub use Rattle.code_scope.specs.rpp_words
pub use Rattle.code_scope.specs.rpp_tree
pub use Rattle.code_scope.specs.inverse_rules
pub use Rattle.code_scope.specs.pisa_isa
pub use Rattle.code_scope.specs.code_conventions
pub use Rattle.code_scope.specs.roopl_semantics
pub use Rattle.code_scope.specs.meaning_sound
pub use Rattle.code_scope.specs.paired_code
pub use Rattle.code_scope.specs.refine_frame
pub use Rattle.code_scope.specs.refine_form
pub use Rattle.code_scope.specs as code_scope
pub mod Number
pub mod Held
pub mod Code
pub mod Steps
pub mod Laws
