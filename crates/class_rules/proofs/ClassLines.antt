-- Lines of parents in an accepted program: what is above a class, and its fields.
use Rattle.std.proofs.Common.{◌≡◌, ◌≢◌, ◌∙◌, sym, ap, subst, refl, ℕ, zero, suc, ◌+◌, ◌-◌, ◌<◌, ◌≤◌, Bool, true, false}
use Rattle.std.proofs.Common.{List, [], ◌∷◌, ◌++◌, map, length, take, Option, Some, None, arith, append-nil}
use Rattle.std.proofs.Common.{append_assoc, length-append}
use Rattle.std.proofs.lemmas.Bool.{eqb-true}
use Rattle.std.proofs.lemmas.List.Folds.{list_any-append}
use Rattle.std.proofs.lemmas.List.{take_at, length-map}
use Rattle.std.specs.Prelude.{nat_eq, ◌||◌}
use Rattle.std.specs.List.{list_any}
use Rattle.std.specs.Option.{unwrap_or}
use Rattle.rpp_tree.specs.Tree.{ClassText, Source}
use Rattle.class_rules.specs.Chains.{parents, parent_named, chain, chain_of, class_line}
use Rattle.class_rules.specs.Rules.{all_class_names}
use Rattle.class_rules.specs.Members.{class_at, fields_along}
use Rattle.class_rules.specs.Classes.{class_fields, inherits}
use Rattle.class_rules.proofs.ChainEnds.{parent, IsPushed, pushed_from, nothing_on, parents_in, chain_ends}
use Rattle.class_rules.specs.Inheritance.{is_or_inherits}
use Rattle.class_rules.specs.Inheritance.{HasFront}

-- whether a class is on a line
abbrev pub on : ℕ → List ℕ → Bool
on q line = list_any (λ above. nat_eq above q) line

pub or_parts : (a b : Bool) → (a || b) ≡ true → a ≡ false → b ≡ true
or_parts true b h e = absurd (cc)
or_parts false b h e = h

pub last_on : (q class : ℕ) (shorter : List ℕ) → on q (shorter ++ class ∷ []) ≡ true → on q shorter ≡ false → class ≡ q
last_on q class shorter h none = eqb-true class q (alone (nat_eq class q)
    (or_parts (on q shorter) _ (sym (list_any-append (λ above. nat_eq above q) shorter (class ∷ [])) ∙ h) none))
  where
    alone : (b : Bool) → (b || false) ≡ true → b ≡ true
    alone true e = refl
    alone false e = absurd (cc)

on_left : (q : ℕ) (xs ys : List ℕ) → on q xs ≡ true → on q (xs ++ ys) ≡ true
on_left q xs ys h = list_any-append (λ above. nat_eq above q) xs ys ∙ ap (λ b. b || on q ys) h

-- the line of a class that is on a line is the first part of it
pub record Above (ps : List (Option ℕ)) (q : ℕ) (line : List ℕ) : Type 0 where
  pub steps : ℕ
  pub own : List ℕ
  pub ends : chain steps ps (Some q) ≡ Some own
  pub below : List ℕ
  pub is : line ≡ own ++ below

pub above_of : (steps : ℕ) (ps : List (Option ℕ)) (class : Option ℕ) (line : List ℕ) (q : ℕ)
    → chain steps ps class ≡ Some line → on q line ≡ true → Above ps q line
above_of zero ps (Some class) line q h there = absurd (cc)
above_of zero ps None line q h there = let e = ap (on q) (nothing_on zero ps line h) in absurd (cc)
above_of (suc steps) ps None line q h there = let e = ap (on q) (nothing_on (suc steps) ps line h) in absurd (cc)
above_of (suc steps) ps (Some class) line q h there =
    let up = pushed_from class (chain steps ps (parent ps class)) line h in
    by up (λ above. above_of steps ps (parent ps class) up.shorter q up.ended above) (on q up.shorter) refl
  where
    by : (p : IsPushed class (chain steps ps (parent ps class)) line) → (on q p.shorter ≡ true → Above ps q p.shorter)
        → (b : Bool) → on q p.shorter ≡ b → Above ps q line
    by p rest true above =
        let a = rest above in
        record {
          steps = a.steps;
          own = a.own;
          ends = a.ends;
          below = a.below ++ class ∷ [];
          is = p.pushed
              ∙ ap (λ z. z ++ class ∷ []) a.is ∙ append_assoc a.own a.below (class ∷ []);
        }
    by p rest false none =
        let same = last_on q class p.shorter (ap (on q) (sym p.pushed) ∙ there) none in
        record {
          steps = suc steps;
          own = line;
          ends = subst (λ c. chain (suc steps) ps (Some c) ≡ Some line) same h;
          below = [];
          is = sym (append-nil line);
        }

-- classes on a line are the program's
pub in_range : (n steps : ℕ) (ps : List (Option ℕ)) (class : Option ℕ) (line : List ℕ) (q : ℕ)
    → ((k number : ℕ) → parent ps k ≡ Some number → number < n) → ((number : ℕ) → class ≡ Some number → number < n)
    → chain steps ps class ≡ Some line → on q line ≡ true → q < n
in_range n zero ps (Some class) line q ups own h there = absurd (cc)
in_range n zero ps None line q ups own h there = let e = ap (on q) (nothing_on zero ps line h) in absurd (cc)
in_range n (suc steps) ps None line q ups own h there = let e = ap (on q) (nothing_on (suc steps) ps line h) in
    absurd (cc)
in_range n (suc steps) ps (Some class) line q ups own h there =
    let up = pushed_from class (chain steps ps (parent ps class)) line h in
    by up (λ above. in_range n steps ps (parent ps class) up.shorter q ups (ups class) up.ended above) (on q up.shorter)
    refl
  where
    by : (p : IsPushed class (chain steps ps (parent ps class)) line) → (on q p.shorter ≡ true → q < n) → (b : Bool)
        → on q p.shorter ≡ b → q < n
    by p rest true above = rest above
    by p rest false none = subst (λ c. c < n) (last_on q class p.shorter (ap (on q) (sym p.pushed) ∙ there) none)
        (own class refl)

-- a line's last class is its own
pub record OwnLine (program : Source) (class : ℕ) (line : List ℕ) : Type 0 where
  pub steps : ℕ
  pub shorter : List ℕ
  pub is : line ≡ shorter ++ class ∷ []
  pub up : chain steps (parents program) (parent (parents program) class) ≡ Some shorter

pub own_line : (program : Source) (n class : ℕ) (line : List ℕ) → chain n (parents program) (Some class) ≡ Some line
    → OwnLine program class line
own_line program zero class line h = absurd (cc)
own_line program (suc n) class line h =
    let p = pushed_from class (chain n (parents program) (parent (parents program) class)) line h in
    record { steps = n; shorter = p.shorter; is = p.pushed; up = p.ended }

pub line_is : (program : Source) (class steps : ℕ) (line : List ℕ) → class < length program.classes
    → chain steps (parents program) (Some class) ≡ Some line → class_line program class ≡ line
line_is program class steps line inside h = ap (λ r. unwrap_or r []) (chain_ends program class steps line inside h)

pub front_of : (class : ℕ) (shorter : List ℕ) → take (length (shorter ++ class ∷ []) - 1) (shorter ++ class ∷ [])
    ≡ shorter
front_of class shorter = let e : length (shorter ++ class ∷ []) - 1 ≡ length shorter =
    omega (arith, length-append shorter (class ∷ [])) in ap (λ n. take n (shorter ++ class ∷ [])) e
    ∙ take_at shorter (class ∷ []) (length shorter) refl

-- a class that inherits from another: its line, and the position of the other on it
pub record Inherits (program : Source) (own class : ℕ) : Type 0 where
  pub line : List ℕ
  pub chain_is : chain_of program own ≡ Some line
  pub line_is : class_line program own ≡ line
  pub last : OwnLine program own line
  pub there : on class last.shorter ≡ true

pub inherits_parts : (program : Source) (own class : ℕ) → inherits program own class ≡ true → Inherits program own class
inherits_parts program own class h = by (chain_of program own) refl
  where
    by : (r : Option (List ℕ)) → chain_of program own ≡ r → Inherits program own class
    by None e =
        let nothing : class_line program own ≡ [] = ap (λ r. unwrap_or r []) e in
        let f : list_any (λ above. nat_eq above class) (take (length (class_line program own) - 1)
        (class_line program own))
        ≡ false = ap (λ l. list_any (λ above. nat_eq above class) (take (length l - 1) l)) nothing in
        absurd (cc)
    by (Some line) e =
        let l = own_line program (length program.classes) own line e in
        let is : class_line program own ≡ line = ap (λ r. unwrap_or r []) e in
        record {
          line = line;
          chain_is = e;
          line_is = is;
          last = l;
          there = sym (ap (λ z. on class (take (length z - 1) z)) (is ∙ l.is) ∙ ap (on class) (front_of own l.shorter))
              ∙ h;
        }

parent_inside : (ps : List (Option ℕ)) (k number : ℕ) → parent ps k ≡ Some number → k < length ps
parent_inside [] k number h = absurd (cc)
parent_inside (x ∷ ps) zero number h = omega arith
parent_inside (x ∷ ps) (suc k) number h = let r = parent_inside ps k number h in omega arith

-- a class that inherits is one of the program's
pub inherits_inside : (program : Source) (own class : ℕ) → Inherits program own class → own < length program.classes
inherits_inside program own class i = by (parent (parents program) own) refl
  where
    by : (r : Option ℕ) → parent (parents program) own ≡ r → own < length program.classes
    by None e =
        let nothing = nothing_on i.last.steps (parents program) i.last.shorter
        (ap (chain i.last.steps (parents program)) (sym e) ∙ i.last.up) in
        let f = ap (on class) nothing in
        let g = i.there in
        absurd (cc)
    by (Some number) e = let p = parent_inside (parents program) own number e in
        omega (
          arith,
          length-map program.classes (λ (class : ClassText). parent_named (all_class_names program)
              class.parent),
        )

pub inherits_by : (program : Source) (own class : ℕ) (shorter : List ℕ) → class_line program own ≡ shorter ++ own ∷ []
    → on class shorter ≡ true → inherits program own class ≡ true
inherits_by program own class shorter is h = ap (λ z. on class (take (length z - 1) z)) is
    ∙ ap (on class) (front_of own shorter) ∙ h

-- a class above another: its line is the first part of the other's
pub record Over (program : Source) (own class : ℕ) : Type 0 where
  pub below : List ℕ
  pub is : class_line program own ≡ class_line program class ++ below

pub over_of : (program : Source) (own class : ℕ) → is_or_inherits program own class ≡ true → Over program own class
over_of program own class h = by (nat_eq own class) refl h
  where
    by : (b : Bool) → nat_eq own class ≡ b → (b || inherits program own class) ≡ true → Over program own class
    by true e q = record {
      below = [];
      is = ap (class_line program) (eqb-true own class e)
          ∙ sym (append-nil (class_line program class));
    }
    by false e q =
        let i = inherits_parts program own class q in
        let a = above_of i.last.steps (parents program) (parent (parents program) own) i.last.shorter class i.last.up
        i.there in
        let r = in_range (length program.classes) i.last.steps (parents program) (parent (parents program) own)
        i.last.shorter class (parents_in program) (parents_in program own) i.last.up i.there in
        let l = line_is program class a.steps a.own r a.ends in
        record {
          below = a.below ++ own ∷ [];
          is = i.line_is ∙ i.last.is ∙ ap (λ z. z ++ own ∷ []) a.is
              ∙ append_assoc a.own a.below (own ∷ []) ∙ ap (λ z. z ++ (a.below ++ own ∷ [])) (sym l);
        }

-- ---- fields

pub fields_along-append : (program : Source) (xs ys : List ℕ)
    → fields_along program (xs ++ ys) ≡ fields_along program xs ++ fields_along program ys
fields_along-append program [] ys = refl
fields_along-append program (x ∷ xs) ys = ap (λ z. (class_at program x).fields ++ z) (fields_along-append program xs ys)
    ∙ sym (append_assoc (class_at program x).fields (fields_along program xs) (fields_along program ys))

pub front_fields : (program : Source) (own class : ℕ) → is_or_inherits program own class ≡ true
    → HasFront (class_fields program class) (class_fields program own)
front_fields program own class h =
    let o = over_of program own class h in
    record {
      more = fields_along program o.below;
      is = ap (fields_along program) o.is
          ∙ fields_along-append program (class_line program class) o.below;
    }

-- ---- through a class between

pub is_or_by : (program : Source) (a c : ℕ) → inherits program a c ≡ true → is_or_inherits program a c ≡ true
is_or_by program a c h = by (nat_eq a c)
  where
    by : (b : Bool) → (b || inherits program a c) ≡ true
    by true = refl
    by false = h

pub is_through : (program : Source) (a b c : ℕ) → is_or_inherits program a b ≡ true → is_or_inherits program b c ≡ true
    → is_or_inherits program a c ≡ true
is_through program a b c h k = by (nat_eq a b) refl h (nat_eq b c) refl k
  where
    by : (x : Bool) → nat_eq a b ≡ x → (x || inherits program a b) ≡ true → (y : Bool) → nat_eq b c ≡ y
        → (y || inherits program b c) ≡ true → is_or_inherits program a c ≡ true
    by true e p y f q = ap (λ z. is_or_inherits program z c) (eqb-true a b e) ∙ k
    by false e p true f q = ap (is_or_inherits program a) (sym (eqb-true b c f)) ∙ h
    by false e p false f q =
        let i = inherits_parts program a b p in
        let j = inherits_parts program b c q in
        let s = above_of i.last.steps (parents program) (parent (parents program) a) i.last.shorter b i.last.up i.there
        in
        let r = in_range (length program.classes) i.last.steps (parents program) (parent (parents program) a)
        i.last.shorter b (parents_in program) (parents_in program a) i.last.up i.there in
        let l : class_line program b ≡ s.own = line_is program b s.steps s.own r s.ends in
        let there : on c s.own ≡ true = ap (on c) (sym l ∙ j.line_is ∙ j.last.is)
        ∙ on_left c j.last.shorter (b ∷ []) j.there in
        is_or_by program a c (inherits_by program a c i.last.shorter (i.line_is ∙ i.last.is)
        (ap (on c) s.is ∙ on_left c s.own s.below there))

-- a class on a line
pub on_line_above : (program : Source) (own class : ℕ) (shorter : List ℕ) → class_line program own ≡ shorter ++ own ∷ []
    → on class (shorter ++ own ∷ []) ≡ true → is_or_inherits program own class ≡ true
on_line_above program own class shorter is h = by (on class shorter) refl
  where
    by : (b : Bool) → on class shorter ≡ b → is_or_inherits program own class ≡ true
    by true e = is_or_by program own class (inherits_by program own class shorter is e)
    by false e = ap (λ z. z || inherits program own class)
        (Rattle.std.proofs.Common.eq-eqb own class (last_on class own shorter h e))
