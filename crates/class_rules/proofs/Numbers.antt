-- Lists of what a function returns at each number.
use Rattle.std.proofs.Common.{◌≡◌, ◌∙◌, ℕ, zero, suc, ◌+◌, ◌<◌, List, [], ◌∷◌, ◌++◌, length, get_or, map, refl}
use Rattle.std.proofs.Common.{slice_get, drop, add-one, Option, None, arith, length-append}
use Rattle.std.proofs.lemmas.List.{length-map}
use Rattle.rpp_tree.specs.declared.tree.Program.{Program}
use Rattle.rpp_tree.specs.declared.tree.Class.{Class}
use Rattle.rpp_tree.specs.Views.{source_of, class_text_of}
use Rattle.class_rules.specs.Chains.{lines, class_line}
use Rattle.class_rules.specs.Members.{class_at, no_class}
use Rattle.std.specs.Option.{unwrap_or}
use Rattle.std.proofs.lemmas.Option.{unwrap_or-slice_get}
use Rattle.std.proofs.lemmas.Grind.{common_steps}
use Rattle.class_rules.specs.First.{first_at, each_below}

pub length-each_below : {A : Type 0} (f : ℕ → A) (n : ℕ) → length (each_below f n) ≡ n
length-each_below f zero = refl
length-each_below f (suc n) = let h = length-each_below f n in omega (arith, length-append (each_below f n) (f n ∷ []))

one_more : {A : Type 0} (f : ℕ → A) (xs : List A) (n c : ℕ) (d : A) → length xs ≡ n → (c < n → get_or xs c d ≡ f c)
    → c < n + 1 → get_or (xs ++ f n ∷ []) c d ≡ f c
one_more f xs n c d len below h = grind (arith, common_steps)

each_below-get_or : {A : Type 0} (f : ℕ → A) (n c : ℕ) (d : A) → c < n → get_or (each_below f n) c d ≡ f c
each_below-get_or f zero c d h = absurd (omega arith)
each_below-get_or f (suc n) c d h = one_more f (each_below f n) n c d (length-each_below f n)
    (each_below-get_or f n c d) (omega arith)

pub each_below-get : {A : Type 0} (f : ℕ → A) (n c : ℕ) (d : A) → c < n
    → unwrap_or (slice_get (each_below f n) c) d ≡ f c
each_below-get f n c d h = unwrap_or-slice_get (each_below f n) c d ∙ each_below-get_or f n c d h

pub mapped-get : {A B : Type 0} (f : A → B) (xs : List A) (i : ℕ) (d : A) (other : B) → i < length xs
    → unwrap_or (slice_get (map f xs) i) other ≡ f (get_or xs i d)
mapped-get f [] i d other h = absurd (omega arith)
mapped-get f (x ∷ xs) zero d other h = refl
mapped-get f (x ∷ xs) (suc i) d other h = mapped-get f xs i d other (omega arith)

pub line-known : (program : Program) (number : ℕ) → number < length program.classes.items
    → unwrap_or (slice_get (lines (source_of program)) number) [] ≡ class_line (source_of program) number
line-known program number h =
    each_below-get (class_line (source_of program)) (length (map class_text_of program.classes.items)) number []
    (rw length-map h)

pub class-known : (program : Program) (number : ℕ) (d : Class) → number < length program.classes.items
    → class_at (source_of program) number ≡ class_text_of (get_or program.classes.items number d)
class-known program number d h = mapped-get class_text_of program.classes.items number d no_class h

pub each_below-next : {A : Type 0} (f : ℕ → A) (n : ℕ) → each_below f (n + 1) ≡ each_below f n ++ f n ∷ []
each_below-next f n = rw add-one refl

-- an element that its rule does not refuse leaves the rest to decide
pub first_at-next : {A B E : Type 0} (rule : ℕ → B → Option E) (f : A → B) (xs : List A) (n : ℕ) (x : A) → n < length xs
    → x ≡ get_or xs n x → rule n (f x) ≡ None → first_at rule n (map f (drop n xs))
    ≡ first_at rule (n + 1) (map f (drop (n + 1) xs))
first_at-next rule f xs n x h at none = grind (arith, common_steps)

pub ruleset by_number = (line-known, class-known)
