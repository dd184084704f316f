-- A chain of parents that ends holds no class twice, so it ends within as many steps as there are
-- classes.
use Rattle.std.proofs.Common.{◌≡◌, ◌∙◌, sym, ap, subst, ℕ, zero, suc, ◌+◌, ◌-◌, ◌<◌, ◌≤◌, Bool, true, false, List, []}
use Rattle.std.proofs.Common.{◌∷◌, ◌++◌, length, map, Option, Some, None, refl, slice_get, add-zero, add-suc, arith}
use Rattle.std.proofs.Common.{length-append}
use Rattle.std.proofs.Math.Dec.{eqb}
use Rattle.std.proofs.lemmas.Bool.{eqb-true}
use Rattle.std.proofs.lemmas.Cmp.{nat_eq_equiv}
use Rattle.std.proofs.lemmas.List.{length-map}
use Rattle.std.proofs.lemmas.List.Folds.{list_any-append}
use Rattle.std.proofs.lemmas.List.Quantifiers.{position-Some}
use Rattle.std.proofs.lemmas.Map.Keys.{IsDistinct-push}
use Rattle.std.proofs.lemmas.Map.Steps.{length-le_from_distinct_below}
use Rattle.std.specs.List.{list_any, IsDistinct}
use Rattle.std.specs.Option.{unwrap_or}
use Rattle.std.specs.Str.{bytes_eq}
use Rattle.rpp_tree.specs.Tree.{ClassText, Source}
use Rattle.rpp_tree.specs.declared.tree.Ident.{Ident}
use Rattle.class_rules.specs.Rules.{all_class_names}
use Rattle.class_rules.specs.Chains.{parent_named, parents, with_last, chain, chain_of}

abbrev pub parent : List (Option ℕ) → ℕ → Option ℕ
parent ps class = unwrap_or (slice_get ps class) None

-- a line is that of the parent, and then the class
pub record IsPushed (class : ℕ) (above : Option (List ℕ)) (line : List ℕ) : Type 0 where
  pub shorter : List ℕ
  pub ended : above ≡ Some shorter
  pub pushed : line ≡ shorter ++ class ∷ []

pub pushed_from : (class : ℕ) (above : Option (List ℕ)) (line : List ℕ) → with_last class above ≡ Some line
    → IsPushed class above line
pushed_from class None line h = absurd (cc)
pushed_from class (Some shorter) line h = record { shorter = shorter; ended = refl; pushed = cc }

nothing_above : (steps : ℕ) (ps : List (Option ℕ)) → chain steps ps None ≡ Some []
nothing_above zero ps = refl
nothing_above (suc steps) ps = refl

pub nothing_on : (steps : ℕ) (ps : List (Option ℕ)) (line : List ℕ) → chain steps ps None ≡ Some line → line ≡ []
nothing_on steps ps line h = let e = nothing_above steps ps in cc

-- one more step, and several more, change nothing
one_more : (steps : ℕ) (ps : List (Option ℕ)) (class : Option ℕ) (line : List ℕ) → chain steps ps class ≡ Some line
    → chain (suc steps) ps class ≡ Some line
one_more zero ps None line h = h
one_more (suc steps) ps None line h = h
one_more zero ps (Some class) line h = absurd (cc)
one_more (suc steps) ps (Some class) line h =
    let p = pushed_from class (chain steps ps (parent ps class)) line h in
    ap (with_last class) (one_more steps ps (parent ps class) p.shorter p.ended) ∙ ap Some (sym p.pushed)

more : (k steps : ℕ) (ps : List (Option ℕ)) (class : Option ℕ) (line : List ℕ) → chain steps ps class ≡ Some line
    → chain (steps + k) ps class ≡ Some line
more zero steps ps class line h = rw add-zero h
more (suc k) steps ps class line h = rw add-suc (one_more (steps + k) ps class line (more k steps ps class line h))

-- a class has one line, however many steps
same_line : (s t : ℕ) (ps : List (Option ℕ)) (class : Option ℕ) (line other : List ℕ) → chain s ps class ≡ Some line
    → chain t ps class ≡ Some other → line ≡ other
same_line s t ps class line other h g =
    let a = more t s ps class line h in
    let e : t + s ≡ s + t = omega arith in
    let b = subst (λ n. chain n ps class ≡ Some other) e (more s t ps class other g) in
    cc

-- as many steps as the line has classes are enough
push_length : (class : ℕ) (line : List ℕ) → length (line ++ class ∷ []) ≡ suc (length line)
push_length class line = omega (arith, length-append line (class ∷ []))

just_enough : (steps : ℕ) (ps : List (Option ℕ)) (class : Option ℕ) (line : List ℕ) → chain steps ps class ≡ Some line
    → chain (length line) ps class ≡ Some line
just_enough zero ps (Some class) line h = absurd (cc)
just_enough zero ps None line h = subst (λ l. chain (length l) ps None ≡ Some l) (sym (nothing_on zero ps line h)) refl
just_enough (suc steps) ps None line h = subst (λ l. chain (length l) ps None ≡ Some l)
    (sym (nothing_on (suc steps) ps line h)) refl
just_enough (suc steps) ps (Some class) line h =
    let p = pushed_from class (chain steps ps (parent ps class)) line h in
    let count : length line ≡ suc (length p.shorter) = ap length p.pushed ∙ push_length class p.shorter in
    subst (λ n. chain n ps (Some class) ≡ Some line) (sym count)
    (ap (with_last class) (just_enough steps ps (parent ps class) p.shorter p.ended) ∙ ap Some (sym p.pushed))

-- the chain of a class ends with a line no longer than this
record EndsWithin (ps : List (Option ℕ)) (class bound : ℕ) : Type 0 where
  pub steps : ℕ
  pub line : List ℕ
  pub ends : chain steps ps (Some class) ≡ Some line
  pub short : length line ≤ bound

last_or_above : (q class : ℕ) (shorter : List ℕ) → list_any (eqb q) (shorter ++ class ∷ []) ≡ true
    → list_any (eqb q) shorter ≡ false → q ≡ class
last_or_above q class shorter there absent =
    let split = sym (list_any-append (eqb q) shorter (class ∷ [])) ∙ there in
    eqb-true q class (grind arith)

member : (steps : ℕ) (ps : List (Option ℕ)) (class : Option ℕ) (line : List ℕ) (q : ℕ)
    → chain steps ps class ≡ Some line → list_any (eqb q) line ≡ true → EndsWithin ps q (length line)
member zero ps (Some class) line q h there = absurd (cc)
member zero ps None line q h there = let e = ap (list_any (eqb q)) (nothing_on zero ps line h) in absurd (cc)
member (suc steps) ps None line q h there = let e = ap (list_any (eqb q)) (nothing_on (suc steps) ps line h) in
    absurd (cc)
member (suc steps) ps (Some class) line q h there =
    let up = pushed_from class (chain steps ps (parent ps class)) line h in
    by (λ above. member steps ps (parent ps class) up.shorter q up.ended above) (list_any (eqb q) up.shorter) refl
  where
    p : IsPushed class (chain steps ps (parent ps class)) line
    p = pushed_from class (chain steps ps (parent ps class)) line h

    by : (list_any (eqb q) p.shorter ≡ true → EndsWithin ps q (length p.shorter)) → (b : Bool)
        → list_any (eqb q) p.shorter ≡ b → EndsWithin ps q (length line)
    by rest true above =
        let e = rest above in
        let count : length line ≡ suc (length p.shorter) = ap length p.pushed ∙ push_length class p.shorter in
        record { steps = e.steps; line = e.line; ends = e.ends; short = omega (arith, e.short) }
    by rest false absent =
        let same = last_or_above q class p.shorter (sym (ap (list_any (eqb q)) p.pushed) ∙ there) absent in
        record {
          steps = suc steps;
          line = line;
          ends = subst (λ c. chain (suc steps) ps (Some c) ≡ Some line)
              (sym same) h;
          short = omega arith;
        }

none_twice : IsDistinct eqb []
unfolding IsDistinct
none_twice = tt

-- no class occurs twice on a line
distinct : (steps : ℕ) (ps : List (Option ℕ)) (class : Option ℕ) (line : List ℕ) → chain steps ps class ≡ Some line
    → IsDistinct eqb line
distinct zero ps (Some class) line h = absurd (cc)
distinct zero ps None line h = subst (IsDistinct eqb) (sym (nothing_on zero ps line h)) none_twice
distinct (suc steps) ps None line h = subst (IsDistinct eqb) (sym (nothing_on (suc steps) ps line h)) none_twice
distinct (suc steps) ps (Some class) line h =
    subst (IsDistinct eqb) (sym p.pushed) (IsDistinct-push nat_eq_equiv p.shorter class
    (distinct steps ps (parent ps class) p.shorter p.ended) (absent (list_any (eqb class) p.shorter) refl))
  where
    p : IsPushed class (chain steps ps (parent ps class)) line
    p = pushed_from class (chain steps ps (parent ps class)) line h

    absent : (b : Bool) → list_any (eqb class) p.shorter ≡ b → list_any (eqb class) p.shorter ≡ false
    absent false h = h
    absent true there =
        let e = member steps ps (parent ps class) p.shorter class p.ended there in
        let same = ap length (same_line e.steps (suc steps) ps (Some class) e.line line e.ends h) in
        let count : length line ≡ suc (length p.shorter) = ap length p.pushed ∙ push_length class p.shorter in
        absurd (omega (arith, e.short))

-- each parent is a class
known_parent : (names : List (List ℕ)) (name : Option Ident) (number : ℕ) → parent_named names name ≡ Some number
    → number < length names
known_parent names None number h = absurd (cc)
known_parent names (Some name) number h = (position-Some (bytes_eq name.text) names number [] h).0

pub known_parents : (names : List (List ℕ)) (classes : List ClassText) (k number : ℕ)
    → parent (map (λ class. parent_named names class.parent) classes) k ≡ Some number → number < length names
known_parents names [] k number h = absurd (cc)
known_parents names (class ∷ classes) zero number h = known_parent names class.parent number h
known_parents names (class ∷ classes) (suc k) number h = known_parents names classes k number h

-- each class on a line is one of the program's
within : (n steps : ℕ) (ps : List (Option ℕ)) (class : Option ℕ) (line : List ℕ)
    → ((k number : ℕ) → parent ps k ≡ Some number → number < n) → ((number : ℕ) → class ≡ Some number → number < n)
    → chain steps ps class ≡ Some line → (q : ℕ) → list_any (eqb q) line ≡ true → q < n
within n zero ps (Some class) line parents_in own h q there = absurd (cc)
within n zero ps None line parents_in own h q there = let e = ap (list_any (eqb q)) (nothing_on zero ps line h) in
    absurd (cc)
within n (suc steps) ps None line parents_in own h q there = let e =
    ap (list_any (eqb q)) (nothing_on (suc steps) ps line h) in absurd (cc)
within n (suc steps) ps (Some class) line parents_in own h q there =
    let up = pushed_from class (chain steps ps (parent ps class)) line h in
    by (λ above. within n steps ps (parent ps class) up.shorter parents_in (parents_in class) up.ended q above)
    (list_any (eqb q) up.shorter) refl
  where
    p : IsPushed class (chain steps ps (parent ps class)) line
    p = pushed_from class (chain steps ps (parent ps class)) line h

    by : (list_any (eqb q) p.shorter ≡ true → q < n) → (b : Bool) → list_any (eqb q) p.shorter ≡ b → q < n
    by rest true above = rest above
    by rest false absent = subst (λ c. c < n) (sym (last_or_above q class p.shorter
        (sym (ap (list_any (eqb q)) p.pushed) ∙ there) absent)) (own class refl)

pub parents_in : (program : Source) (k number : ℕ) → parent (parents program) k ≡ Some number
    → number < length program.classes
parents_in program k number h =
    let named : length (all_class_names program) ≡ length program.classes = rw length-map refl in
    subst (λ m. number < m) named (known_parents (all_class_names program) program.classes k number h)

own_number : (n class number : ℕ) → class < n → Some class ≡ Some number → number < n
own_number n class number h e = let same : class ≡ number = cc in subst (λ c. c < n) same h

pub chain_ends : (program : Source) (class steps : ℕ) (line : List ℕ) → class < length program.classes
    → chain steps (parents program) (Some class) ≡ Some line → chain_of program class ≡ Some line
chain_ends program class steps line inside ends =
    let n = length program.classes in
    let ps = parents program in
    let short : length line ≤ n = length-le_from_distinct_below line n (distinct steps ps (Some class) line ends)
    (within n steps ps (Some class) line (parents_in program) (λ number e. own_number n class number inside e) ends)
    in
    let whole : length line + (n - length line) ≡ n = omega arith in
    subst (λ m. chain m ps (Some class) ≡ Some line) whole
    (more (n - length line) (length line) ps (Some class) line (just_enough steps ps (Some class) line ends))
