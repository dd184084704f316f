-- The lines of a text are not many.
use Rattle.std.proofs.Common.{◌≡◌, ap, ℕ, ◌+◌, ◌≤◌, List, map, length, arith}
use Rattle.std.specs.Prelude.{nat_eq}
use Rattle.std.proofs.lemmas.List.{length-map}
use Rattle.std.proofs.lemmas.List.Splits.{length-slice_split}
use Rattle.std.proofs.lemmas.List.Sums.{count_by-le-length}
use Rattle.pisa_scripts.specs.Lines.{pieces}

-- there are no more lines than bytes, and one
pub few_lines : {A : Type 0} (f : A → List ℕ) (items : List A) (at : ℕ) (bytes : List ℕ) → map f items ≡ pieces at bytes
    → length items ≤ length bytes + 1
few_lines f items at bytes e =
    omega (
      arith,
      ap length e,
      length-map items f,
      length-slice_split (λ b. nat_eq b at) bytes,
      count_by-le-length (λ b. nat_eq b at) bytes,
    )
