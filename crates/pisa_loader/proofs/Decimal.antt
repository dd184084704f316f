-- The number that digits write, up to a cap.
use Rattle.std.proofs.Common.{◌≡◌, ◌∙◌, ℕ, ◌+◌, ◌-◌, ◌*◌, ◌<◌, ◌≤◌, min, List, length, get_or, drop, arith}
use Rattle.std.proofs.Common.{ap, sym, inl, inr}
use Rattle.std.proofs.lemmas.Bool.{cases_lt}
use Rattle.pisa_machine.specs.rpp_words.Texts.{decimal_from}
use Rattle.pisa_machine.proofs.rpp_words_laws.Decimals.{decimal_from-grows, decimal_from-drop}

-- past the cap, more digits do not matter
capped : (cap before : ℕ) (digits : List ℕ) → min (decimal_from (min before cap) digits) cap
    ≡ min (decimal_from before digits) cap
capped cap before digits =
    elim (cases_lt before cap) [
      | inl lt ↦ let same : min before cap ≡ before = omega arith in ap (λ n. min (decimal_from n digits) cap) same
      | inr le ↦
          let same : min before cap ≡ cap = omega arith in
          let here : cap ≤ decimal_from before digits = (let g = decimal_from-grows before digits in omega arith) in
          let there : cap ≤ decimal_from cap digits = decimal_from-grows cap digits in
          ap (λ n. min (decimal_from n digits) cap) same ∙ both_capped (decimal_from cap digits)
          (decimal_from before digits) there here
    ]
  where
    both_capped : (a b : ℕ) → cap ≤ a → cap ≤ b → min a cap ≡ min b cap
    both_capped a b h k = omega arith

pub one_more : (cap before i : ℕ) (digits : List ℕ) → i < length digits
    → min (decimal_from (min (10 * before + (get_or digits i 0 - 48)) cap) (drop (i + 1) digits)) cap
    ≡ min (decimal_from before (drop i digits)) cap
one_more cap before i digits more =
    let step : decimal_from before (drop i digits) ≡ decimal_from (10 * before + (get_or digits i 0 - 48))
    (drop (i + 1) digits) = decimal_from-drop before i digits more in
    capped cap (10 * before + (get_or digits i 0 - 48)) (drop (i + 1) digits) ∙ ap (λ n. min n cap) (sym step)
