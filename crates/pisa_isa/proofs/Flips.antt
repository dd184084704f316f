-- The flipped code of an image is the code of an image, and flipping it again gives the code back.
use Rattle.std.proofs.Common.{◌≡◌, ◌∙◌, sym, ap, subst, refl, ℕ, ◌+◌, ◌-◌, ◌<◌, Bool, cond, arith, List, [], ◌∷◌}
use Rattle.std.proofs.Common.{length, get_or, map}
use Rattle.std.specs.Prelude.{count_by}
use Rattle.std.specs.List.{All}
use Rattle.std.proofs.lemmas.List.{same_lists, length-reverse, length-map}
use Rattle.std.proofs.lemmas.List.Sums.{sum_by-cons}
use Rattle.std.proofs.lemmas.List.Sorted.{IsPermutation-reverse, sum_by-IsPermutation}
use Rattle.std.proofs.lemmas.Option.{slice_get-get_or, get_or_from_slice_get}
use Rattle.pisa_isa.specs.declared.cell.Cell.{Cell}
use Rattle.pisa_isa.specs.Table.{IsCell, inverse_of}
use Rattle.pisa_isa.specs.Image.{Segments, IsImage, is_start, is_finish}
use Rattle.pisa_isa.specs.Flipped.{flipped, flipped_image}
use Rattle.pisa_isa.proofs.Facing.{IsCell-inverse}
use Rattle.pisa_isa.proofs.Mirror.{inverse_of-twice}
use Rattle.pisa_isa.proofs.Ends.{get_or-flipped, is_start-inverse_op, is_finish-inverse_op}

pub length-flipped : (code : List Cell) → length (flipped code) ≡ length code
length-flipped code = length-reverse (map inverse_of code) ∙ length-map code inverse_of

-- inside a list the default does not matter
any_default : (code : List Cell) (k : ℕ) (d e : Cell) → k < length code → get_or code k d ≡ get_or code k e
any_default code k d e h = get_or_from_slice_get code k (get_or code k e) d (slice_get-get_or code k e h)

-- the cell at a place of the flipped code
pub cell-flipped : (code : List Cell) (k : ℕ) (d : Cell) → k < length code
    → get_or (flipped code) k d ≡ inverse_of (get_or code (length code - 1 - k) d)
cell-flipped code k d h = any_default (flipped code) k d (inverse_of d) (omega (arith, length-flipped code))
    ∙ get_or-flipped code k d h

pub flipped-flipped : (code : List Cell) → All IsCell code → flipped (flipped code) ≡ code
flipped-flipped code cells =
    let n = length-flipped code in
    same_lists (flipped (flipped code)) code (length-flipped (flipped code) ∙ n)
    (λ k d h.
    let in_code : k < length code = omega (arith, length-flipped (flipped code)) in
    let place : length code - 1 - (length code - 1 - k) ≡ k = omega arith in
    cell-flipped (flipped code) k d (omega arith)
    ∙ ap (λ m. inverse_of (get_or (flipped code) (m - 1 - k) d)) n
    ∙ ap inverse_of (cell-flipped code (length code - 1 - k) d (omega arith))
    ∙ ap (λ i. inverse_of (inverse_of (get_or code i d))) place
    ∙ inverse_of-twice (get_or code k d) (cells k d in_code))

cells-flipped : (code : List Cell) → All IsCell code → All IsCell (flipped code)
cells-flipped code cells = λ k d h.
    let in_code : k < length code = omega (arith, length-flipped code) in
    subst IsCell (sym (cell-flipped code k d in_code)) (IsCell-inverse _ (cells (length code - 1 - k) d (omega arith)))

count-map : (p q : Cell → Bool) → ((c : Cell) → p (inverse_of c) ≡ q c) → (code : List Cell)
    → count_by p (map inverse_of code) ≡ count_by q code
count-map p q same [] = refl
count-map p q same (c ∷ code) =
    sum_by-cons (λ x. cond (p x) 1 0) (inverse_of c) (map inverse_of code)
    ∙ ap (λ b. cond b 1 0 + count_by p (map inverse_of code)) (same c)
    ∙ ap (λ k. cond (q c) 1 0 + k) (count-map p q same code)
    ∙ sym (sum_by-cons (λ x. cond (q x) 1 0) c code)

count-flipped : (p q : Cell → Bool) → ((c : Cell) → p (inverse_of c) ≡ q c) → (code : List Cell)
    → count_by p (flipped code) ≡ count_by q code
count-flipped p q same code =
    sum_by-IsPermutation (λ x. cond (p x) 1 0) (map inverse_of code) (flipped code)
    (IsPermutation-reverse (map inverse_of code)) ∙ count-map p q same code

pub IsImage-flipped : (image : Segments) → IsImage image → IsImage (flipped_image image)
IsImage-flipped image i =
    let limit = i.is_code.in_limit in
    record {
      is_code = record {
        in_limit = omega (arith, length-flipped image.code);
        cells = cells-flipped image.code i.is_code.cells;
      };
      one_start = count-flipped is_start is_finish (λ c. is_start-inverse_op c.op) image.code ∙ i.one_finish;
      one_finish = count-flipped is_finish is_start (λ c. is_finish-inverse_op c.op) image.code ∙ i.one_start;
      statics_in_limit = i.statics_in_limit;
    }
