-- How many cells the middles have, and the most steps of the walk over an object's fields.
use Rattle.std.proofs.Common.{◌≡◌, ℕ, zero, suc, ◌+◌, ◌*◌, ◌≤◌, Bool, true, false, [], ◌∷◌, ◌++◌, length, refl}
use Rattle.std.proofs.Common.{ap}
use Rattle.std.proofs.Common.{◌∙◌, arith, length-append}
use Rattle.std.specs.Prelude.{nat_le, if◌then◌else◌}
use Rattle.std.proofs.lemmas.Bool.Decides.{nat_tests}
use Rattle.refine_heap.specs.paired_code.Layout.{mirror_cells}
use Rattle.refine_heap.proofs.paired_code_laws.Mirrored.{length_mirror}
use Rattle.expr_uncompute.specs.register_expressions.Code.{xori}
use Rattle.object_codegen.specs.declared.news.TheConstants.{FEW_FIELDS}
use Rattle.object_codegen.specs.declared.shape.Shape.TheVariants.{Fixed, Lengthy}
use Rattle.object_codegen.specs.Code.{order, copy_mid, order_cells, new_mid, new_checks, new_alter, delete_checks}
use Rattle.object_codegen.specs.Code.{load_cells, some_reference, same_mark, single, zeros_cells, fields_cells}
use Rattle.object_codegen.specs.Code.{field_cells, walked_cells}
use Rattle.object_codegen.specs.News.{zeros_steps}
use Rattle.refine_heap.specs.code_conventions.declared.registers.TheConstants.{PLACE}

pub copy_cells_are : length copy_mid ≡ 47
copy_cells_are = refl

fields_are : (n : ℕ) → length (fields_cells n) ≡ 7 * n
fields_are zero = refl
fields_are (suc n) = length-append (fields_cells n) (field_cells n) ∙ one (fields_are n)
  where
    one : {k : ℕ} → k ≡ 7 * n → k + 7 ≡ 7 * suc n
    one e = omega arith

zeros_are : (table fields : ℕ) → length (zeros_cells (Fixed table fields)) ≤ 42
zeros_are table fields = by (nat_le fields FEW_FIELDS) refl
  where
    by : (t : Bool) → nat_le fields FEW_FIELDS ≡ t
        → length (if t then fields_cells fields else walked_cells (Fixed table fields)) ≤ 42
    by true e = let few : fields ≤ FEW_FIELDS = grind (arith, nat_tests) in omega (arith, fields_are fields)
    by false e = let long : length (walked_cells (Fixed table fields)) ≡ 29 = refl in omega (arith, long)

object_sum : (z tried checks all : ℕ) → z ≤ 42 → tried ≡ 3 + (7 + (9 + z)) → checks ≡ 3 + (tried + 3)
    → all ≡ 5 + (14 + checks) → all ≤ 86
object_sum z tried checks all l a b c = omega arith

-- of an object
pub object_cells_are : (table fields o : ℕ) → length (new_mid (Fixed table fields) (xori order o ∷ [])) ≤ 86
object_cells_are table fields o =
    let shape = Fixed table fields in
    let zeros = zeros_cells (Fixed table fields) in
    let tried = some_reference ++ (same_mark (Fixed table fields) ++ (single ++ zeros_cells (Fixed table fields))) in
    let checks = delete_checks (Fixed table fields) in
    let change = new_alter (Fixed table fields) (xori order o ∷ []) in
    object_sum (length zeros) (length tried) (length checks) (length (new_mid shape (xori order o ∷ [])))
    (zeros_are table fields)
    (length-append some_reference (same_mark shape ++ (single ++ zeros))
    ∙ ap (λ n. 3 + n) (length-append (same_mark shape) (single ++ zeros)
    ∙ ap (λ n. 7 + n) (length-append single zeros)))
    (length-append (load_cells PLACE) (tried ++ mirror_cells (load_cells PLACE))
    ∙ ap (λ n. 3 + n) (length-append tried (mirror_cells (load_cells PLACE))))
    (length-append (new_checks shape) (change ++ mirror_cells checks)
    ∙ ap (λ n. 5 + n) (length-append change (mirror_cells checks) ∙ ap (λ n. 14 + n) (length_mirror checks)))

-- of an array
pub array_cells_are : length (new_mid Lengthy order_cells) ≡ 164
array_cells_are = refl

pub zeros_most : (table fields size : ℕ) → zeros_steps (Fixed table fields) size ≤ 19 + 13 * size
zeros_most table fields size = by (nat_le fields FEW_FIELDS)
  where
    by : (t : Bool) → (if t then 6 * size else 19 + 13 * size) ≤ 19 + 13 * size
    by true = omega arith
    by false = omega arith
