-- The order of an array's block is put into its register, before the allocator is called.
use Rattle.std.proofs.Common.{◌≡◌, ◌≢◌, ℕ, zero, suc, ◌+◌, ◌^◌, ◌≤◌, ◌<◌, List, []}
use Rattle.std.proofs.Common.{◌∷◌, refl, sym, ap, arith, ◌-◌}
use Rattle.std.specs.Prelude.{slice_index}
use Rattle.refine_heap.specs.code_conventions.declared.memory.TheConstants.{HEADER_WORDS}
use Rattle.refine_heap.specs.buddy_book.Book.{order_for}
use Rattle.expr_uncompute.specs.register_expressions.Number.{Bases}
use Rattle.expr_uncompute.proofs.register_expressions_laws.Goes.{Goes, goes_to}
use Rattle.object_codegen.specs.declared.shape.Shape.TheVariants.{Lengthy}
use Rattle.object_codegen.specs.Code.{order_cells}
use Rattle.object_codegen.proofs.SizeOrders.{log_of, size_order}
use Rattle.object_codegen.proofs.SizeRows.{order_goes}
use Rattle.object_codegen.proofs.Filling.{calling}
use Rattle.refine_heap.proofs.buddy_book_laws.LeastOrder.{order_for-only}

-- ---- at a call of the allocator

abbrev others : Bases → ℕ → ℕ → ℕ
others b p r =
    slice_index (0 ∷ 0 ∷ 0 ∷ b.object ∷ b.frame ∷ 0 ∷ 0 ∷ 0 ∷ 0 ∷ 0 ∷ 0 ∷ 0 ∷ 0 ∷ 0 ∷ p ∷ 0 ∷ 0 ∷ 0 ∷ 0 ∷ 0 ∷ 0 ∷ 0 ∷ 0
    ∷ 0 ∷ 0 ∷ 0 ∷ 0 ∷ 0 ∷ 0 ∷ 0 ∷ 0 ∷ 0 ∷ []) r

-- the order goes into its register, whatever is called
pub ordering : (b : Bases) (p v : ℕ) (ys : List ℕ) → v < 2 ^ 31 → v ≢ 0
    → Goes order_cells 43 (calling b 0 0 p v Lengthy ys) (calling b (order_for (HEADER_WORDS + v)) 0 p v Lengthy ys)
ordering b p v ys h n =
    let one : 1 ≤ v = positive v n in
    let e : 1 + log_of (v + (HEADER_WORDS - 1)) ≡ order_for (HEADER_WORDS + v) =
    sym (order_for-only (HEADER_WORDS + v) (1 + log_of (v + (HEADER_WORDS - 1))) (omega (arith, h))
    (size_order v one h)) in
    goes_to refl refl (ap (λ o. calling b o 0 p v Lengthy ys) e) (order_goes (others b p) ys v one h)
  where
    positive : (v : ℕ) → v ≢ 0 → 1 ≤ v
    positive zero n = absurd (n refl)
    positive (suc v) n = omega arith
