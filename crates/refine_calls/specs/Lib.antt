pub use Rattle.buddy_pisa.specs.rpp_words
pub use Rattle.method_calls.specs.rpp_tree
pub use Rattle.method_calls.specs.class_rules
pub use Rattle.buddy_pisa.specs.pisa_isa
pub use Rattle.method_calls.specs.code_conventions
pub use Rattle.buddy_pisa.specs.buddy_book
pub use Rattle.method_calls.specs.roopl_semantics
pub use Rattle.method_calls.specs.meaning_sound
pub use Rattle.buddy_pisa.specs.paired_code
pub use Rattle.buddy_pisa.specs as buddy_pisa
pub use Rattle.method_calls.specs.refine_form
pub use Rattle.method_calls.specs as method_calls
pub mod Laws
