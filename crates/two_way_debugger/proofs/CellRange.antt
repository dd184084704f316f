-- The cells of a range, one after the other.
use Rattle.std.proofs.Common.{◌≡◌, ◌∙◌, sym, ap, ℕ, suc, ◌+◌, ◌<◌, List, [], ◌∷◌, ◌++◌, length, get_or, take, drop}
use Rattle.std.proofs.Common.{drop-cons, append_assoc, Some, arith}
use Rattle.std.specs.Prelude.{min, slice_get}
use Rattle.std.proofs.lemmas.List.{length-take, get_or-take}
use Rattle.std.proofs.lemmas.Option.{slice_get-get_or}
use Rattle.two_way_debugger.specs.Shown.{memory_cell_lines}
use Rattle.pisa_scripts.specs.Words.{cell_line}

some_is : (x y : ℕ) → Some x ≡ Some y → x ≡ y
some_is x y h = cc

-- a cell, and those after it
front_cell : (n k word : ℕ) (cells : List ℕ) → n < min k (length cells) → slice_get cells n ≡ Some word
    → drop n (take k cells) ≡ word ∷ drop (suc n) (take k cells)
front_cell n k word cells more is =
    let inside : n < length (take k cells) = omega (arith, length-take k cells) in
    let low : n < k = omega arith in
    let there : n < length cells = omega arith in
    let same : word ≡ get_or (take k cells) n 0 = some_is word (get_or cells n 0)
    (sym is ∙ slice_get-get_or cells n 0 there) ∙ sym (get_or-take k cells n 0 low) in
    drop-cons (take k cells) n 0 inside ∙ ap (λ w. w ∷ drop (suc n) (take k cells)) (sym same)

pub one_cell_more : (n next k word : ℕ) (cells before after : List ℕ) (whole : List ℕ) → next ≡ n + 1
    → n < min k (length cells) → Some word ≡ slice_get cells n → after ≡ before ++ cell_line n word
    → before ++ memory_cell_lines n (drop n (take k cells)) ≡ whole
    → after ++ memory_cell_lines next (drop next (take k cells)) ≡ whole
one_cell_more n next k word cells before after whole step more is grown so_far =
    let same : next ≡ suc n = omega arith in
    rw (same, grown) (append_assoc before (cell_line n word) (memory_cell_lines (suc n) (drop (suc n) (take k cells)))
    ∙ ap (λ xs. before ++ memory_cell_lines n xs) (sym (front_cell n k word cells more (sym is)))
    ∙ so_far)
