-- What the reading of a program gives, in the terms of the grammar.
use Rattle.std.specs.Prelude.{◌≡◌, ◌≢◌, ℕ, ◌≤◌, Bool, true, false, IsTrue, List, [], ◌∷◌, ◌++◌, length, drop, nat_lt}
use Rattle.std.specs.Prelude.{cond, Option, Some, None, Result, Ok, Err, refl}
use Rattle.std.proofs.Common.{subst, sym, ap, ◌∙◌, inl, inr, arith, le-ltb}
use Rattle.roopl_lexer.specs.rpp_tree.Tree.{ClassText, Source}
use Rattle.roopl_lexer.specs.rpp_tree.declared.limits.LimitKind.{LimitKind}
use Rattle.roopl_lexer.specs.rpp_tree.declared.limits.LimitKind.TheVariants.{Tokens}
use Rattle.roopl_lexer.specs.rpp_tree.declared.limits.TheConstants.{MOST_TOKENS, MOST_PARENS}
use Rattle.roopl_lexer.specs.declared.token.Token.{Token}
use Rattle.roopl_parser.specs.declared.error.ParseError.{ParseError}
use Rattle.roopl_parser.specs.declared.error.ParseError.TheVariants.{Syntax, Limit}
use Rattle.roopl_parser.specs.Grammar.{Derives, IsClasses, no_class}
use Rattle.roopl_parser.specs.Parens.{classes_parens}
use Rattle.roopl_parser.specs.Reader.{ParsedValue, Part, Classes, Program, scan, ends}
use Rattle.roopl_parser.specs.Viable.{IsViable, IsWrongAt, IsTokenReached, IsSmall, Behind, offset_at, passes, too_many}
use Rattle.roopl_parser.specs.Viable.{or_else, first_limit, unless, reading}
use Rattle.roopl_parser.proofs.Sound.{Gen}
use Rattle.roopl_parser.proofs.Complete.{classes_read}
use Rattle.roopl_parser.proofs.Kept.{classes_kept}
use Rattle.roopl_parser.proofs.Parts.{few_tokens}
use Rattle.roopl_parser.proofs.Fault.{free_sound, stop, run_free, over}

abbrev start : List Part
start = Program 0 ∷ []

abbrev none_yet : List ParsedValue
none_yet = Classes [] ∷ []

from_gen : (ts : List Token) (q : ParsedValue) → Gen start none_yet ts q
    → (x : List ClassText) × IsClasses ts [] x × (q ≡ Classes x)
from_gen ts q (inl g) =
    let P : List Token → Type 0 = λ r. IsClasses r [] [] in
    ([], subst P (sym g.0) no_class, g.1)
from_gen ts q (inr g) =
    let P : List Token → Type 0 = λ r. IsClasses ts r g.1 in
    (g.1, subst P g.3.0 g.2, g.3.1)

abbrev source : List ClassText → Source
source x = record { classes = x }

not_true : IsTrue false → ⊥
not_true t = cc

no_limit : (m : Option ParseError) (free : Result ParsedValue ParseError) (q : ParsedValue) → unless m free ≡ Ok q
    → m ≡ None
no_limit None free q h = refl
no_limit (Some e) free q h = cc

ends_here : (strict : Bool) (end : ℕ) (x : List ClassText) → scan strict end [] 0 [] (Classes x ∷ []) ≡ Ok (Classes x)
unfolding scan ends
ends_here strict end x = refl

-- what the grammar derives is read without the limits
accepted : (end : ℕ) (ts : List Token) (x : List ClassText) → IsClasses ts [] x
    → scan false end ts 0 start none_yet ≡ Ok (Classes x)
accepted end ts x d = classes_read false end d 0 (λ t. absurd (not_true t)) (λ t. absurd (not_true t))
    (λ t. absurd (not_true t)) (refl, refl, refl, (refl, λ j l. refl)) refl refl [] [] [] ∙ ends_here false end x

-- two syntax trees of one list of tokens are one
pub one_tree : (tokens : List Token) (x y : Source) → Derives tokens x → Derives tokens y → x ≡ y
one_tree tokens x y d e =
    let p = accepted 0 tokens x.classes d in
    let q = accepted 0 tokens y.classes e in
    let same : x.classes ≡ y.classes = cc in
    ap source same

-- what the grammar derives, and keeps the limits, passes none
pub within : (ts : List Token) (x : Source) (d : Derives ts x) → length ts ≤ MOST_TOKENS → IsSmall x
    → classes_parens d ≤ MOST_PARENS → first_limit ts ≡ None
within ts x d few small flat =
    let read : scan true 0 ts 0 start none_yet ≡ Ok (Classes x.classes) =
    classes_read true 0 d 0 (λ t. omega (arith, small.classes_few)) (λ t. small.methods_small) (λ t. flat)
    (refl, refl, refl, (refl, λ j l. refl)) refl refl [] [] [] ∙ ends_here true 0 x.classes in
    let same = run_free 0 ts 0 start none_yet in
    let none : passes ts 0 start none_yet ≡ None = no_limit (passes ts 0 start none_yet) _ (Classes x.classes)
    (sym same ∙ read) in
    rw (le-ltb _ _ few, none) refl

free_tree : (end : ℕ) (ts : List Token) (x : List ClassText) → scan false end ts 0 start none_yet ≡ Ok (Classes x)
    → IsClasses ts [] x
free_tree end ts x h =
    let r = from_gen ts (Classes x) (free_sound end ts 0 start none_yet (Classes x) h) in
    let P : List ClassText → Type 0 = λ y. IsClasses ts [] y in
    let same : r.0 ≡ x = cc in
    subst P same r.1

wrong_at : (end : ℕ) (ts : List Token) (at : ℕ) → scan false end ts 0 start none_yet ≡ Err (Syntax at)
    → IsWrongAt end ts at
wrong_at end ts at h =
    let r = stop end ts 0 start none_yet (Syntax at) h in
    let a = r.alive in
    let g = from_gen (r.front ++ a.0) a.1 a.2 in
    let place : Syntax at ≡ Syntax (offset_at end r.rest) = r.place in
    record {
      front = r.front;
      rest = r.rest;
      all = r.all;
      place = cc;
      viable = (a.0, source g.0, g.1);
      wrong = λ more x b d. r.dead more (Classes x.classes) b (accepted end (r.front ++ more) x.classes d);
    }

reached : (ts : List Token) (which : LimitKind) (at : ℕ) → passes ts 0 start none_yet ≡ Some (Limit which at)
    → IsTokenReached ts at
reached ts which at h =
    let r = over ts 0 start none_yet (Limit which at) h in
    let a = r.alive in
    let g = from_gen (r.front ++ r.token ∷ a.0) a.1 a.2 in
    let place : Limit which at ≡ Limit r.which r.token.at = r.place in
    record { front = r.front; token = r.token; rest = r.rest; all = r.all; place = cc; viable = (a.0, source g.0, g.1) }

-- reading is reading without limits, up to the first that is passed
joined : (first second : Option ParseError) (strict free : Result ParsedValue ParseError) → strict ≡ unless second free
    → unless first strict ≡ unless (or_else first second) free
joined None second strict free h = h
joined (Some e) second strict free h = refl

pub reading_is : (end : ℕ) (ts : List Token) → reading end ts
    ≡ unless (first_limit ts) (scan false end ts 0 start none_yet)
reading_is end ts = joined (too_many ts) (passes ts 0 start none_yet) (scan true end ts 0 start none_yet)
    (scan false end ts 0 start none_yet) (run_free end ts 0 start none_yet)

tree_by : (end : ℕ) (ts : List Token) (x : List ClassText) (m : Option ParseError)
    → reading end ts ≡ unless m (scan false end ts 0 start none_yet) → reading end ts ≡ Ok (Classes x)
    → IsClasses ts [] x × (m ≡ None)
tree_by end ts x None e h = (free_tree end ts x (sym e ∙ h), refl)
tree_by end ts x (Some l) e h = cc

-- what follows if reading gave a syntax tree
pub read_tree : (end : ℕ) (ts : List Token) (x : Source) → reading end ts ≡ Ok (Classes x.classes)
    → Derives ts x × (first_limit ts ≡ None)
read_tree end ts x h = tree_by end ts x.classes (first_limit ts) (reading_is end ts) h

-- a limit is no syntax error
passed_limit : (ts : List Token) (at : ℕ) → passes ts 0 start none_yet ≡ Some (Syntax at) → ⊥
passed_limit ts at h =
    let r = over ts 0 start none_yet (Syntax at) h in
    let place : Syntax at ≡ Limit r.which r.token.at = r.place in
    cc

not_syntax : (ts : List Token) (at : ℕ) (b : Bool) → or_else
    (cond b (Some (Limit Tokens (offset_at 0 (drop MOST_TOKENS ts)))) None) (passes ts 0 start none_yet)
    ≡ Some (Syntax at) → ⊥
not_syntax ts at true h = cc
not_syntax ts at false h = passed_limit ts at h

syntax_by : (end : ℕ) (ts : List Token) (at : ℕ) (m : Option ParseError) → (m ≡ Some (Syntax at) → ⊥)
    → reading end ts ≡ unless m (scan false end ts 0 start none_yet) → reading end ts ≡ Err (Syntax at)
    → IsWrongAt end ts at × (m ≡ None)
syntax_by end ts at None never e h = (wrong_at end ts at (sym e ∙ h), refl)
syntax_by end ts at (Some l) never e h = let same : l ≡ Syntax at = cc in absurd (never (ap Some same))

-- what follows if reading gave an error of syntax
pub read_syntax : (end : ℕ) (ts : List Token) (at : ℕ) → reading end ts ≡ Err (Syntax at)
    → IsWrongAt end ts at × (first_limit ts ≡ None)
read_syntax end ts at h = syntax_by end ts at (first_limit ts) (not_syntax ts at (nat_lt MOST_TOKENS (length ts)))
    (reading_is end ts) h

-- without the limits an error is one of syntax
not_limit : (end : ℕ) (ts : List Token) (which : LimitKind) (at : ℕ)
    → scan false end ts 0 start none_yet ≡ Err (Limit which at) → ⊥
not_limit end ts which at h =
    let r = stop end ts 0 start none_yet (Limit which at) h in
    let place : Limit which at ≡ Syntax (offset_at end r.rest) = r.place in
    cc

limit_by : (end : ℕ) (ts : List Token) (which : LimitKind) (at : ℕ) (m : Option ParseError)
    → reading end ts ≡ unless m (scan false end ts 0 start none_yet) → reading end ts ≡ Err (Limit which at)
    → m ≡ Some (Limit which at)
limit_by end ts which at None e h = absurd (not_limit end ts which at (sym e ∙ h))
limit_by end ts which at (Some l) e h = cc

limit_reached : (ts : List Token) (which : LimitKind) (at : ℕ) (b : Bool)
    → or_else (cond b (Some (Limit Tokens (offset_at 0 (drop MOST_TOKENS ts)))) None) (passes ts 0 start none_yet)
    ≡ Some (Limit which at) → which ≢ Tokens → IsTokenReached ts at
limit_reached ts which at true h never = let same : which ≡ Tokens = cc in absurd (never same)
limit_reached ts which at false h never = reached ts which at h

-- what follows if reading gave a limit
pub read_limit : (end : ℕ) (ts : List Token) (which : LimitKind) (at : ℕ) → reading end ts ≡ Err (Limit which at)
    → (first_limit ts ≡ Some (Limit which at)) × (which ≢ Tokens → IsTokenReached ts at)
read_limit end ts which at h =
    let m = limit_by end ts which at (first_limit ts) (reading_is end ts) h in
    (m, limit_reached ts which at (nat_lt MOST_TOKENS (length ts)) m)

-- what the grammar derives and passes no limit is read
pub read_all : (end : ℕ) (ts : List Token) (x : Source) → Derives ts x → first_limit ts ≡ None
    → reading end ts ≡ Ok (Classes x.classes)
read_all end ts x d e = reading_is end ts ∙ ap (λ m. unless m (scan false end ts 0 start none_yet)) e
    ∙ accepted end ts x.classes d

strict_ok : (m : Option ParseError) (strict : Result ParsedValue ParseError) (q : ParsedValue) → unless m strict ≡ Ok q
    → strict ≡ Ok q
strict_ok None strict q h = h
strict_ok (Some e) strict q h = cc

-- if no limit is passed, the syntax tree, its tokens and their parentheses keep the limits
pub kept : (ts : List Token) (x : Source) (d : Derives ts x) → first_limit ts ≡ None
    → (length ts ≤ MOST_TOKENS) × IsSmall x × (classes_parens d ≤ MOST_PARENS)
kept ts x d e =
    let h = strict_ok (too_many ts) (scan true 0 ts 0 start none_yet) (Classes x.classes) (read_all 0 ts x d e) in
    let r = classes_kept 0 (Classes x.classes) d 0 (omega arith) (refl, refl, refl, (refl, λ j l. refl)) refl [] [] [] h
    in
    (few_tokens ts e, record { classes_few = omega (arith, r.0); methods_small = r.1 }, r.2)

itself : (r : List Token) → Behind r r
itself [] = refl
itself (t ∷ ts) = (ts, refl)

cons_head : {a b : Token} {x y : List Token} → a ∷ x ≡ b ∷ y → a ≡ b
cons_head {a} {b} {x} {y} h = cc

cons_tail : {a b : Token} {x y : List Token} → a ∷ x ≡ b ∷ y → x ≡ y
cons_tail {a} {b} {x} {y} h = cc

behind_same : (r s more : List Token) → r ≡ s → Behind r more → Behind s more
behind_same r s more h b = let P : List Token → Type 0 = λ l. Behind l more in subst P h b

-- of two places at which tokens go wrong, none is before the other
one_place : (end : ℕ) (D : List Token → Type 0) (f r g s : List Token) → f ++ r ≡ g ++ s
    → ((more : List Token) × D (f ++ more)) → ((more : List Token) → Behind r more → D (f ++ more) → ⊥)
    → ((more : List Token) × D (g ++ more)) → ((more : List Token) → Behind s more → D (g ++ more) → ⊥)
    → offset_at end r ≡ offset_at end s
one_place end D [] r [] s same live dead live' dead' = ap (offset_at end) same
one_place end D [] r (t ∷ g) s same live dead live' dead' =
    absurd (dead (t ∷ g ++ live'.0) (behind_same (t ∷ g ++ s) r (t ∷ g ++ live'.0) (sym same) (g ++ live'.0, refl))
    live'.1)
one_place end D (t ∷ f) r [] s same live dead live' dead' =
    absurd (dead' (t ∷ f ++ live.0) (behind_same (t ∷ f ++ r) s (t ∷ f ++ live.0) same (f ++ live.0, refl)) live.1)
one_place end D (t ∷ f) r (u ∷ g) s same live dead live' dead' =
    let E : List Token → Type 0 = λ l. D (t ∷ l) in
    let e : t ≡ u = cons_head same in
    one_place end E f r g s (cons_tail same) live dead
    (live'.0, (let Q : Token → Type 0 = λ v. D (v ∷ g ++ live'.0) in subst Q (sym e) live'.1))
    (λ more b d. dead' more b (let Q : Token → Type 0 = λ v. D (v ∷ g ++ more) in subst Q e d))

-- the tokens are those of a program
abbrev IsProgram : List Token → Type 0
IsProgram ts = (x : Source) × Derives ts x

program_of : (front : List Token) → IsViable front → (more : List Token) × IsProgram (front ++ more)
program_of front v = (v.0, (v.1, v.2))

pub one_wrong : (end : ℕ) (ts : List Token) (at to : ℕ) → IsWrongAt end ts at → IsWrongAt end ts to → at ≡ to
one_wrong end ts at to a b =
    a.place ∙ one_place end IsProgram a.front a.rest b.front b.rest (sym a.all ∙ b.all) (program_of a.front a.viable)
    (λ more h d. a.wrong more d.0 h d.1) (program_of b.front b.viable) (λ more h d. b.wrong more d.0 h d.1)
    ∙ sym b.place

free_wrong : (end : ℕ) (ts : List Token) (at : ℕ) (r : Result ParsedValue ParseError)
    → scan false end ts 0 start none_yet ≡ r
    → IsWrongAt end ts at → r ≡ Err (Syntax at)
free_wrong end ts at (Ok q) e w =
    let g = from_gen ts q (free_sound end ts 0 start none_yet q e) in
    let P : List Token → Type 0 = λ l. IsClasses l [] g.0 in
    absurd (w.wrong w.rest (source g.0) (itself w.rest) (subst P w.all g.1))
free_wrong end ts at (Err f) e w =
    let r = stop end ts 0 start none_yet f e in
    let p = wrong_at end ts (offset_at end r.rest) (e ∙ ap Err r.place) in
    let same = one_wrong end ts (offset_at end r.rest) at p w in
    ap Err (r.place ∙ ap Syntax same)

-- if tokens go wrong and none before passes a limit, reading says so
pub wrong_read : (end : ℕ) (ts : List Token) (at : ℕ) → IsWrongAt end ts at → first_limit ts ≡ None
    → reading end ts ≡ Err (Syntax at)
wrong_read end ts at w e = reading_is end ts ∙ ap (λ m. unless m (scan false end ts 0 start none_yet)) e
    ∙ free_wrong end ts at (scan false end ts 0 start none_yet) refl w

-- if a limit is passed first, reading says so
pub passed_read : (end : ℕ) (ts : List Token) (e : ParseError) → first_limit ts ≡ Some e → reading end ts ≡ Err e
passed_read end ts e h = reading_is end ts ∙ ap (λ m. unless m (scan false end ts 0 start none_yet)) h
