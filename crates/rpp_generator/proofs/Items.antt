-- The items one by one.
use Rattle.std.proofs.Common.{◌≡◌, ℕ, zero, suc, ◌+◌, ◌-◌, ◌<◌, List, ◌++◌, sym, ap, ◌∙◌, append_assoc, arith}
use Rattle.rpp_generator.specs.Generated.{items, item_lines, item_value}

first_item : (seed number count : ℕ) → 0 < count → items seed number count
    ≡ item_lines (item_value seed number) ++ items seed (number + 1) (count - 1)
first_item seed number zero h = absurd (omega (h, arith))
first_item seed number (suc count) h = let e : suc count - 1 ≡ count = omega arith in
    ap (λ n. item_lines (item_value seed number) ++ items seed (number + 1) n) (sym e)

-- the next item goes from what is left to what is there
pub next_item : (front : List ℕ) (seed number size : ℕ) → number < size →
    (front ++ item_lines (item_value seed (1 + number))) ++ items seed (1 + (number + 1)) (size - (number + 1))
    ≡ front ++ items seed (1 + number) (size - number)
next_item front seed number size h =
    let one : 1 + (number + 1) ≡ 1 + number + 1 = omega arith in
    let less : size - (number + 1) ≡ size - number - 1 = omega arith in
    let some : 0 < size - number = omega (h, arith) in
    append_assoc front (item_lines (item_value seed (1 + number))) (items seed (1 + (number + 1)) (size - (number + 1)))
    ∙ ap (λ rest. front ++ rest) (
    ap (λ n. item_lines (item_value seed (1 + number)) ++ items seed n (size - (number + 1))) one
    ∙ ap (λ n. item_lines (item_value seed (1 + number)) ++ items seed (1 + number + 1) n) less
    ∙ sym (first_item seed (1 + number) (size - number) some))
