pub use Rattle.refine_heap.specs.rpp_words
pub use Rattle.refine_heap.specs.rpp_tree
pub use Rattle.refine_heap.specs.class_rules
pub use Rattle.refine_heap.specs.pisa_isa
pub use Rattle.refine_heap.specs.code_conventions
pub use Rattle.refine_heap.specs.buddy_book
pub use Rattle.static_layout.specs.roopl_semantics
pub use Rattle.expr_uncompute.specs.meaning_sound
pub use Rattle.refine_heap.specs.paired_code
pub use Rattle.refine_heap.specs.buddy_pisa
pub use Rattle.expr_uncompute.specs.refine_frame
pub use Rattle.expr_uncompute.specs.refine_form
pub use Rattle.expr_uncompute.specs.code_scope
pub use Rattle.expr_uncompute.specs.register_expressions
pub use Rattle.expr_uncompute.specs as expr_uncompute
pub use Rattle.refine_heap.specs as refine_heap
pub mod Code
pub mod Promises
pub mod News
pub mod Creations
