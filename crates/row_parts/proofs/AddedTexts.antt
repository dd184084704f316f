-- Texts that are added one after the other.
use Rattle.std.proofs.Common.{◌≡◌, ◌++◌, List, ℕ, Option, Some, None, refl, sym, ap, ◌∙◌, append_assoc}
use Rattle.std.specs.Prelude.{option_map, option_and_then, unwrap_or}

same_text : (a b : List ℕ) → Some a ≡ Some b → a ≡ b
same_text a b e = ap (λ o. unwrap_or o a) e

-- the first was added, so the rest is added to what it gave
pub adds_on : (made next : List ℕ) (first rest : Option (List ℕ))
    → option_map (λ added. made ++ added) first ≡ Some next
    → option_map (λ added. next ++ added) rest
    ≡ option_map (λ added. made ++ added)
    (option_and_then (λ text. option_map (λ texts. text ++ texts) rest) first)
adds_on made next None rest e = cc
adds_on made next (Some text) None e = refl
adds_on made next (Some text) (Some texts) e =
    let grouped : (made ++ text) ++ texts ≡ made ++ (text ++ texts) = rw append_assoc refl in
    ap (λ whole. Some (whole ++ texts)) (sym (same_text (made ++ text) next e))
    ∙ ap (λ whole. Some whole) grouped
