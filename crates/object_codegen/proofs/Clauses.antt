-- What the calls of a middle give if places are found around it.
use Rattle.std.proofs.Common.{◌≡◌, ℕ, ◌+◌, ◌*◌, ◌^◌, ◌<◌, ◌≤◌, List, [], ◌∷◌, ◌++◌, length, ap, ◌∙◌, subst, arith}
use Rattle.std.specs.Prelude.{Result, Ok, Err, IfOk}
use Rattle.refine_heap.specs.rpp_tree.Tree.{Expression, Lvalue, index_nodes}
use Rattle.refine_heap.specs.paired_code.declared.part.Symbol.{Symbol}
use Rattle.refine_heap.specs.paired_code.Code.{Code, unmarked}
use Rattle.static_layout.specs.roopl_semantics.Elements.{index_elements, own_element, read_cost}
use Rattle.expr_uncompute.specs.refine_form.declared.spot.Spot.{Spot}
use Rattle.expr_uncompute.specs.register_expressions.Code.{xori}
use Rattle.expr_uncompute.specs.Found.{PlaceAroundLaw, ValueAroundLaw, PlacesAroundLaw}
use Rattle.expr_uncompute.proofs.Bounds.{found_places_most}
use Rattle.object_codegen.specs.declared.shape.Shape.TheVariants.{Fixed, Lengthy}
use Rattle.object_codegen.specs.Code.{order, copy_mid, order_cells, new_mid}
use Rattle.object_codegen.specs.Promises.{CopyLaw, copy_steps}
use Rattle.object_codegen.specs.News.{ObjectLaw, ArrayLaw}
use Rattle.object_codegen.proofs.CopyLaws.{copy_law}
use Rattle.object_codegen.proofs.MakeLaws.{object_law, array_law}

cells_are : {c : Code} {cells : List Symbol} → c ≡ unmarked cells → c.cells ≡ cells
cells_are e = ap (λ z. z.cells) e

pub size_returns : {E : Type 0} (n k : ℕ) (cells : List Symbol) (middle : Code) (r : Result Code E)
    → middle ≡ unmarked cells → length cells ≤ n → IfOk r (λ p. length p.cells ≤ length middle.cells + k)
    → IfOk r (λ p. length p.cells ≤ n + k)
size_returns n k cells middle (Ok p) e l h = let q : length middle.cells ≡ length cells = ap length (cells_are e)
    in omega arith
size_returns n k cells middle (Err a) e l h = tt

pub no_more : {n k : ℕ} → n ≡ k → n ≤ k
no_more e = omega arith

module _ {E : Type 0} (spot : List ℕ → Spot) (free : ℕ) where
  pub copy_returns : (source target : Lvalue) (middle : Code) (r : Result Code E) → middle ≡ unmarked copy_mid
      → IfOk r (λ p. PlacesAroundLaw spot free source target middle.cells p.cells)
      → IfOk r (λ p. CopyLaw spot free source target p.cells)
  copy_returns source target middle (Ok p) e h = copy_law spot free source target p.cells
      (subst (λ z. PlacesAroundLaw spot free source target z p.cells) (cells_are e) h)
  copy_returns source target middle (Err a) e h = tt

  pub object_returns : (table fields o : ℕ) (target : Lvalue) (orders middle : Code) (r : Result Code E)
      → table < 2 ^ 32 → fields < 2 ^ 32 → o < 2 ^ 32 → orders ≡ unmarked (xori order o ∷ [])
      → middle ≡ unmarked (new_mid (Fixed table fields) orders.cells)
      → IfOk r (λ p. PlaceAroundLaw spot free target middle.cells p.cells)
      → IfOk r (λ p. ObjectLaw spot free table fields o target p.cells)
  object_returns table fields o target orders middle (Ok p) t f w eo em h =
      object_law spot free table fields o target p.cells t f w
      (subst (λ z. PlaceAroundLaw spot free target z p.cells)
      (cells_are em ∙ ap (new_mid (Fixed table fields)) (cells_are eo)) h)
  object_returns table fields o target orders middle (Err a) t f w eo em h = tt

  pub array_returns : (target : Lvalue) (size : Expression) (orders middle : Code) (r : Result Code E)
      → orders ≡ unmarked order_cells → middle ≡ unmarked (new_mid Lengthy orders.cells)
      → IfOk r (λ p. ValueAroundLaw spot free target size middle.cells p.cells)
      → IfOk r (λ p. ArrayLaw spot free target size p.cells)
  array_returns target size orders middle (Ok p) eo em h =
      array_law spot free target size p.cells (subst (λ z. ValueAroundLaw spot free target size z p.cells)
      (cells_are em ∙ ap (new_mid Lengthy) (cells_are eo)) h)
  array_returns target size orders middle (Err a) eo em h = tt

-- how long the middles are
pub object_length : (table fields o : ℕ) (orders middle : Code) → orders ≡ unmarked (xori order o ∷ [])
    → middle ≡ unmarked (new_mid (Fixed table fields) orders.cells)
    → middle ≡ unmarked (new_mid (Fixed table fields) (xori order o ∷ []))
object_length table fields o orders middle eo em = em ∙ ap (λ z. unmarked (new_mid (Fixed table fields) z))
    (cells_are eo)

pub array_length : (orders middle : Code) → orders ≡ unmarked order_cells
    → middle ≡ unmarked (new_mid Lengthy orders.cells) → middle ≡ unmarked (new_mid Lengthy order_cells)
array_length orders middle eo em = em ∙ ap (λ z. unmarked (new_mid Lengthy z)) (cells_are eo)

-- a copy's steps
pub copy_most : (source target : Lvalue) → copy_steps source target ≤ 370 *
    (1 + index_nodes source + index_nodes target + read_cost (own_element target)
    (index_elements source ++ index_elements target))
copy_most source target = let h = found_places_most source target in omega arith
