-- The address of a class's table determines the class.
use Rattle.std.proofs.Common.{◌≡◌, ◌∙◌, sym, ap, refl, ℕ, zero, suc, ◌<◌, Bool, true, false, List, [], ◌∷◌, ◌++◌}
use Rattle.std.proofs.Common.{length, Some, arith}
use Rattle.std.proofs.lemmas.Bool.{ltb-true, ltb-false}
use Rattle.std.specs.Prelude.{nat_eq, nat_lt, position}
use Rattle.std.specs.Option.{option_map}
use Rattle.meaning_reached.specs.rpp_tree.Tree.{Source}
use Rattle.refine_frame.specs.class_rules.First.{each_below}
use Rattle.refine_frame.proofs.class_rules_laws.Numbers.{length-each_below}
use Rattle.static_layout.specs.roopl_semantics.Layout.{table_at}
use Rattle.static_layout.specs.roopl_semantics.Walk.{class_with_table}
use Rattle.refine_frame.proofs.meaning_sound_laws.Stores.{same_number, other_number}
use Rattle.refine_frame.proofs.TableWords.{tables_ascend}
use Rattle.refine_frame.proofs.class_rules_laws.FirstPlaces.{position_cons, position_before}

abbrev NoneOf : (ℕ → Bool) → List ℕ → Type 0
NoneOf p [] = Unit {0}
NoneOf p (x ∷ xs) = (p x ≡ false) × NoneOf p xs

none_append : (p : ℕ → Bool) (xs : List ℕ) (y : ℕ) → NoneOf p xs → p y ≡ false → NoneOf p (xs ++ y ∷ [])
none_append p [] y h e = (e, tt)
none_append p (x ∷ xs) y h e = (h.0, none_append p xs y h.1 e)

position_behind : (p : ℕ → Bool) (xs : List ℕ) (y : ℕ) → NoneOf p xs → p y ≡ true
    → position p (xs ++ y ∷ []) ≡ Some (length xs)
position_behind p [] y h e = position_cons p y [] true e
position_behind p (x ∷ xs) y h e = position_cons p x (xs ++ y ∷ []) false h.0
    ∙ ap (option_map suc) (position_behind p xs y h.1 e)

none_below : (f : ℕ → ℕ) (v n : ℕ) → ((k : ℕ) → k < n → nat_eq v (f k) ≡ false) → NoneOf (nat_eq v) (each_below f n)
none_below f v zero h = tt
none_below f v (suc n) h = none_append (nat_eq v) (each_below f n) (f n) (none_below f v n (λ k l. h k (omega arith)))
    (h n (omega arith))

pub table_tells : (program : Source) (c n : ℕ) → c < n
    → position (nat_eq (table_at program c)) (each_below (table_at program) n) ≡ Some c
table_tells program c zero h = absurd (omega arith)
table_tells program c (suc n) h = by (λ l. table_tells program c n l) (nat_lt c n) refl
  where
    by : (c < n → position (nat_eq (table_at program c)) (each_below (table_at program) n) ≡ Some c) → (b : Bool)
        → nat_lt c n ≡ b → position (nat_eq (table_at program c))
        (each_below (table_at program) n ++ table_at program n ∷ []) ≡ Some c
    by rest true e = position_before (nat_eq (table_at program c)) (each_below (table_at program) n)
        (table_at program n ∷ []) c (rest (ltb-true c n e))
    by rest false e =
        let same : c ≡ n = (let l = ltb-false c n e in omega arith) in
        position_behind (nat_eq (table_at program c)) (each_below (table_at program) n) (table_at program n)
        (none_below (table_at program) (table_at program c) n
        (λ k l. other_number (table_at program c) (table_at program k)
        (λ q. let a = tables_ascend program k c (omega arith) in omega arith)))
        (ap (λ k. nat_eq (table_at program c) (table_at program k)) (sym same) ∙ same_number (table_at program c))
        ∙ ap (λ z. Some z) (length-each_below (table_at program) n ∙ sym same)

pub class_told : (program : Source) (c : ℕ) → c < length program.classes
    → class_with_table program (table_at program c) ≡ Some c
class_told program c h = table_tells program c (length program.classes) h
