-- The cells that try the fields of an object, by how many there are.
use Rattle.std.proofs.Common.{◌≡◌, ◌≢◌, ℕ, zero, suc, ◌<◌, ◌≤◌, Bool, true, false, List, ◌++◌, refl, ap, arith}
use Rattle.std.specs.Prelude.{◌-◌, nat_le, if◌then◌else◌}
use Rattle.std.proofs.lemmas.Bool.Decides.{nat_tests}
use Rattle.refine_heap.specs.paired_code.declared.part.Symbol.{Symbol}
use Rattle.object_codegen.specs.declared.news.TheConstants.{FEW_FIELDS}
use Rattle.object_codegen.specs.declared.shape.Shape.TheVariants.{Fixed}
use Rattle.object_codegen.specs.Code.{zeros_cells, walked_cells, field_cells, fields_cells}

-- the last field is tried after the others
pub last_field : (n : ℕ) → n ≢ 0 → fields_cells n ≡ fields_cells (n - 1) ++ field_cells (n - 1)
last_field zero h = absurd (h refl)
last_field (suc n) h = let e : n ≡ suc n - 1 = omega arith in ap (λ k. fields_cells k ++ field_cells k) e

chosen : (t b : Bool) (p q : List Symbol) → t ≡ b → (if t then p else q) ≡ (if b then p else q)
chosen t b p q e = ap (λ z. if z then p else q) e

pub few_fields : (table fields : ℕ) → fields ≤ FEW_FIELDS → zeros_cells (Fixed table fields) ≡ fields_cells fields
few_fields table fields h =
    let e : nat_le fields FEW_FIELDS ≡ true = grind (arith, nat_tests) in
    chosen (nat_le fields FEW_FIELDS) true (fields_cells fields) (walked_cells (Fixed table fields)) e

pub many_fields : (table fields : ℕ) → FEW_FIELDS < fields
    → zeros_cells (Fixed table fields) ≡ walked_cells (Fixed table fields)
many_fields table fields h =
    let e : nat_le fields FEW_FIELDS ≡ false = grind (arith, nat_tests) in
    chosen (nat_le fields FEW_FIELDS) false (fields_cells fields) (walked_cells (Fixed table fields)) e
