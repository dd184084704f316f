-- The ends of a text that fit.
use Rattle.std.proofs.Common.{◌≡◌, ℕ, zero, suc, ◌<◌, ◌≤◌, List, [], ◌∷◌, length, drop, Option, Some, None, refl, ap, ◌∙◌, arith}
use Rattle.std.proofs.Common.{sym, map, ◌-◌, take, take_all, length-drop, get_or}
use Rattle.row_parts.specs.declared.printed.Part.{Part as Stored}
use Rattle.row_parts.specs.declared.printed.Part.TheVariants as stored
use Rattle.row_parts.specs.Shown.{part_shown}
use Rattle.std.specs.Prelude.{option_and_then}
use Rattle.row_parts.specs.Printed.{Part, Number, Any, Known, shortest_end, named_number, fit}

pub no_end : (fits : List ℕ → Option Known) (said : List ℕ)
    → ((k : ℕ) → k ≤ length said → fits (drop k said) ≡ None) → shortest_end fits said ≡ None
no_end fits [] h = h 0 (omega arith)
no_end fits (byte ∷ said) h =
    let rest : shortest_end fits said ≡ None = no_end fits said (λ k within. h (suc k) (omega arith)) in
    let here : fits (byte ∷ said) ≡ None = h 0 (omega arith) in
    rw (rest, here) refl

pub one_end : (fits : List ℕ → Option Known) (said : List ℕ) (i : ℕ) (known : Known) → i ≤ length said
    → ((k : ℕ) → i < k → k ≤ length said → fits (drop k said) ≡ None)
    → fits (drop i said) ≡ Some known → shortest_end fits said ≡ Some known
one_end fits [] zero known within h e = e
one_end fits [] (suc i) known within h e = absurd (omega arith)
one_end fits (byte ∷ said) zero known within h e =
    let rest : shortest_end fits said ≡ None =
    no_end fits said (λ k below. h (suc k) (omega arith) (omega arith)) in
    rw (rest, e) refl
one_end fits (byte ∷ said) (suc i) known within h e =
    let rest : shortest_end fits said ≡ Some known = one_end fits said i known (omega arith)
    (λ k above below. h (suc k) (omega arith) (omega arith)) e in
    rw rest refl

-- a number that is found, and then the rest
pub number_fits : (rest : List Part) (known : Known) (name said : List ℕ) (next : Known) (left : List ℕ)
    → named_number known name said ≡ Some (next, left)
    → fit (Number name ∷ rest) known said ≡ fit rest next left
number_fits rest known name said next left e = ap (option_and_then (λ found. fit rest found.0 found.1)) e

pub dots_fit : (rest : List Part) (known : Known) (said : List ℕ) (i : ℕ) (next : Known) → i ≤ length said
    → ((k : ℕ) → i < k → k ≤ length said → fit rest known (drop k said) ≡ None)
    → fit rest known (drop i said) ≡ Some next → fit (Any ∷ rest) known said ≡ Some next
dots_fit rest known said i next within h e = one_end (fit rest known) said i next within h e

all_ends : (rest : List Part) (known : Known) (said : List ℕ)
    → ((k : ℕ) → 0 < k → k ≤ length said → fit rest known (drop k said) ≡ None)
    → fit rest known said ≡ None → (k : ℕ) → k ≤ length said → fit rest known (drop k said) ≡ None
all_ends rest known said h e zero within = e
all_ends rest known said h e (suc k) within = h (suc k) (omega arith) within

pub dots_not : (rest : List Part) (known : Known) (said : List ℕ) (i : ℕ) → i ≡ 0
    → ((k : ℕ) → i < k → k ≤ length said → fit rest known (drop k said) ≡ None)
    → fit rest known (drop i said) ≡ None → fit (Any ∷ rest) known said ≡ None
dots_not rest known said zero is h e = no_end (fit rest known) said (all_ends rest known said h e)
dots_not rest known said (suc i) is h e = absurd (omega (arith, is))

-- the parts after the first
abbrev pub later : List Stored → List Stored
later list = take (length list - 1) (drop 1 list)

-- a list of parts whose first one is ...
pub any_first : (list : List Stored) (first : Stored) → 1 ≤ length list → first ≡ get_or list 0 first
    → first ≡ stored.Any → map part_shown list ≡ Any ∷ map part_shown (later list)
any_first [] first within is any = absurd (omega arith)
any_first (part ∷ rest) first within is any =
    let all : take (length (part ∷ rest) - 1) rest ≡ rest = take_all (length (part ∷ rest) - 1) rest (omega arith) in
    ap (λ it. part_shown it ∷ map part_shown rest) (sym is ∙ any) ∙ ap (λ it. Any ∷ map part_shown it) (sym all)

-- a slice up to the end
pub to_end : (i : ℕ) (said : List ℕ) → take (length said - i) (drop i said) ≡ drop i said
to_end i said =
    let left = length-drop i said in
    take_all (length said - i) (drop i said) (omega arith)
