pub use Rattle.refine_heap.proofs.rpp_tree_laws
pub use Rattle.refine_heap.proofs.class_rules_laws
pub use Rattle.refine_heap.proofs.buddy_book_laws
pub use Rattle.static_layout.proofs.roopl_semantics_laws
pub use Rattle.expr_uncompute.proofs.meaning_sound_laws
pub use Rattle.static_layout.proofs as static_layout_laws
pub use Rattle.refine_heap.proofs.paired_code_laws
pub use Rattle.expr_uncompute.proofs.refine_frame_laws
pub use Rattle.expr_uncompute.proofs.refine_form_laws
pub use Rattle.expr_uncompute.proofs.code_scope_laws
pub use Rattle.expr_uncompute.proofs as expr_uncompute_laws
pub use Rattle.refine_heap.proofs as refine_heap_laws
pub mod Leading
pub mod Over
pub mod Touching
pub mod Copying
pub mod Uncopied
pub mod CopyLaws
pub mod Walking
pub mod Deleting
pub mod Filling
pub mod NewLaws
pub mod Taken
pub mod MakeLaws
pub mod OverLayout
pub mod SizeOrders
pub mod SizeRows
pub mod SizeOrdering
pub mod Bounds
pub mod Fields
pub mod Clauses
pub mod CopyRows
pub mod MakeFacts
pub mod MakeKept
pub mod ObjectRows
pub mod ArrayRows
pub mod Classes
