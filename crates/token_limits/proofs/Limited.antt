-- The first limit that is passed, counted over the tokens, is the one that the reader finds.
use Rattle.std.specs.Prelude.{◌≡◌, ℕ, Bool, true, false, IsTrue, List, [], ◌∷◌, ◌++◌, length, drop, nat_lt, cond}
use Rattle.std.specs.Prelude.{Option}
use Rattle.std.specs.Prelude.{Some, None, is_some, Ok, refl}
use Rattle.std.specs.Option.{option_or}
use Rattle.std.proofs.Common.{subst, sym, ap, ◌∙◌, inl, inr, append-nil}
use Rattle.roopl_parser.specs.rpp_tree.Tree.{ClassText, Source}
use Rattle.roopl_parser.specs.rpp_tree.declared.limits.LimitKind.{LimitKind}
use Rattle.roopl_parser.specs.rpp_tree.declared.limits.LimitKind.TheVariants.{Tokens}
use Rattle.roopl_parser.specs.rpp_tree.declared.limits.TheConstants.{MOST_TOKENS}
use Rattle.roopl_parser.specs.roopl_lexer.declared.token.Token.{Token}
use Rattle.roopl_parser.specs.roopl_lexer.declared.token.Symbol.TheVariants as sign
use Rattle.roopl_parser.specs.declared.error.ParseError.{ParseError}
use Rattle.roopl_parser.specs.declared.error.ParseError.TheVariants.{Syntax, Limit, NoMemory}
use Rattle.roopl_parser.specs.Grammar.{Derives, IsClasses, no_class}
use Rattle.token_limits.specs.Laws.{Agrees}
use Rattle.token_limits.specs.Limits as counts
use Rattle.token_limits.specs.Limits.{Begins, count_passes as counted_passes}
use Rattle.roopl_parser.specs.Reader.{ParsedValue, Part, Mark, Step, Classes, Program, Wrong, Next, passed}
use Rattle.roopl_parser.specs.Reader.{walk, scan, ends, led}
use Rattle.roopl_parser.specs.Viable.{IsViable, IsWrongAt, Behind, passing_by, passing, passes, too_many, or_else}
use Rattle.roopl_parser.specs.Viable.{first_limit, offset_at}
use Rattle.roopl_parser.proofs.Sound.{Gen, Then_gen, walk_sound}
use Rattle.roopl_parser.proofs.Productive.{productive}
use Rattle.roopl_parser.proofs.Complete.{classes_read}
use Rattle.token_limits.proofs.Outlines.{outline, Fits, Follows, walk_follows}
use Rattle.roopl_parser.proofs.Fault.{bracket}

abbrev start : List Part
start = Program 0 ∷ []

abbrev none_yet : List ParsedValue
none_yet = Classes [] ∷ []

abbrev source : List ClassText → Source
source x = record { classes = x }

not_true : IsTrue false → ⊥
not_true t = cc

ends_here : (end : ℕ) (x : List ClassText) → scan false end [] 0 [] (Classes x ∷ []) ≡ Ok (Classes x)
unfolding scan ends
ends_here end x = refl

-- what the grammar derives is read without the limits
accepted : (end : ℕ) (ts : List Token) (x : List ClassText) → IsClasses ts [] x
    → scan false end ts 0 start none_yet ≡ Ok (Classes x)
accepted end ts x d = classes_read false end d 0 (λ t. absurd (not_true t)) (λ t. absurd (not_true t))
    (λ t. absurd (not_true t)) (refl, refl, refl, (refl, λ j l. refl)) refl refl [] [] [] ∙ ends_here end x

from_gen : (ts : List Token) (q : ParsedValue) → Gen start none_yet ts q → (x : List ClassText) × IsClasses ts [] x
from_gen ts q (inl g) =
    let P : List Token → Type 0 = λ r. IsClasses r [] [] in
    ([], subst P (sym g.0) no_class)
from_gen ts q (inr g) =
    let P : List Token → Type 0 = λ r. IsClasses ts r g.1 in
    (g.1, subst P g.3.0 g.2)

-- where the reader is after some first tokens of a program
record After (front : List Token) (n : ℕ) (s : List Part) (vs : List ParsedValue) : Type 0 where
  nodes : ℕ
  stack : List Part
  values : List ParsedValue
  same : (rest : List Token) (x : Option ℕ) → Agrees (passes rest nodes stack values) x
      → Agrees (passes (front ++ rest) n s vs) (option_or (counts.count_passes front n (outline s)) x)
  behind : (rest : List Token) (q : ParsedValue) → Gen stack values rest q → Gen s vs (front ++ rest) q

fits_of : (mark : Mark) (n : ℕ) (s : List Part) (vs : List ParsedValue) (to : counts.CountStep)
    → Follows (Next mark n s vs) to
    → Fits n s
fits_of mark n s vs (counts.To which m u) h = h.3

by_limit : (at : ℕ) (which : Option LimitKind) (full : Bool) (n : ℕ) (u : List counts.CountPart)
    (next : ℕ → List counts.CountPart → Option ℕ) (found : Option ParseError) (x : Option ℕ) → is_some which ≡ full
    → Agrees found (option_or (next n u) x)
    → Agrees (passing_by at which found) (option_or (counts.count_passing at next (counts.To full n u)) x)
by_limit at None false n u next found x e h = h
by_limit at None true n u next found x e h = cc
by_limit at (Some which) false n u next found x e h = cc
by_limit at (Some which) true n u next found x e h = refl

-- one token more
one_more : (at : ℕ) (b : Bool) (mark : Mark) (n : ℕ) (s : List Part) (vs : List ParsedValue) (to : counts.CountStep)
    (next : ℕ → List counts.CountPart → Option ℕ) (found : Option ParseError) (x : Option ℕ)
    → Follows (Next mark n s vs) to → Agrees found (option_or (next n (outline s)) x)
    → Agrees (passing_by at (passed mark b) found) (option_or (counts.count_passing at next to) x)
one_more at b mark n s vs (counts.To full m u) next found x h e =
    let P : ℕ → Type 0 = λ k. Agrees found (option_or (next k u) x) in
    let Q : List counts.CountPart → Type 0 = λ v. Agrees found (option_or (next n v) x) in
    by_limit at (passed mark b) full m u next found x (h.0 b) (subst P h.1 (subst Q h.2 e))

after_step : (end : ℕ) (t : Token) (ts more : List Token) (n : ℕ) (s : List Part) (vs : List ParsedValue)
    (q : ParsedValue)
    (step : Step) → walk s n vs t ≡ step → Fits n s
    → ((m : ℕ) (u : List Part) (ws : List ParsedValue) → Fits m u → scan false end (ts ++ more) m u ws ≡ Ok q
    → After ts m u ws)
    → led false t.at (bracket (ts ++ more)) (scan false end (ts ++ more)) step ≡ Ok q → After (t ∷ ts) n s vs
unfolding passes counted_passes
after_step end t ts more n s vs q Wrong w h below e = cc
after_step end t ts more n s vs q (Next mark n' s' vs') w h below e =
    let P : Step → Type 0 = λ x. Follows x (counts.count_walk (outline s) n t.kind) in
    let follows = subst P w (walk_follows s n vs t h) in
    let a = below n' s' vs' (fits_of mark n' s' vs' (counts.count_walk (outline s) n t.kind) follows) e in
    record {
      nodes = a.nodes;
      stack = a.stack;
      values = a.values;
      same = λ rest x g.
          let Q : Step → Type 0 = λ y. Agrees (passing t.at (bracket (ts ++ rest)) (passes (ts ++ rest)) y)
          (option_or (counts.count_passing t.at (counts.count_passes ts) (counts.count_walk (outline s) n t.kind)) x) in
          subst Q (sym w) (one_more t.at (bracket (ts ++ rest)) mark n' s' vs' (counts.count_walk (outline s) n t.kind)
          (counts.count_passes ts) (passes (ts ++ rest) n' s' vs') x follows (a.same rest x g));
      behind = λ rest q g.
          let Q : Step → Type 0 = λ x. Then_gen x (ts ++ rest) q in
          walk_sound s n vs t (ts ++ rest) q (subst Q (sym w) (a.behind rest q g));
    }

after : (end : ℕ) (front more : List Token) (n : ℕ) (s : List Part) (vs : List ParsedValue) (q : ParsedValue) → Fits n s
    → scan false end (front ++ more) n s vs ≡ Ok q → After front n s vs
unfolding scan passes counted_passes
after end [] more n s vs q h e =
    record { nodes = n; stack = s; values = vs; same = λ rest x g. g; behind = λ rest q g. g }
after end (t ∷ ts) more n s vs q h e =
    after_step end t ts more n s vs q (walk s n vs t) refl h (λ m u ws. after end ts more m u ws q) e

after_viable : (front : List Token) → IsViable front → After front 0 start none_yet
after_viable front v = after 0 front v.0 0 start none_yet (Classes v.1.classes) refl
    (accepted 0 (front ++ v.0) v.1.classes v.2)

-- ---- tokens of a program

abbrev counted : List Token → Option ℕ
counted front = counts.count_passes front 0 (counts.Program 0 ∷ [])

by_count : (many : Bool) (which : LimitKind) (at : ℕ)
    → Agrees (cond many (Some (Limit which at)) None) (cond many (Some at) None)
by_count true which at = refl
by_count false which at = tt

many_agree : (tokens : List Token) → Agrees (too_many tokens) (counts.count_too_many tokens)
many_agree tokens = by_count (nat_lt MOST_TOKENS (length tokens)) Tokens (offset_at 0 (drop MOST_TOKENS tokens))

by_both : (m a : Option ParseError) (c d : Option ℕ) → Agrees m c → Agrees a d
    → Agrees (or_else m a) (option_or c d)
by_both None a None d h g = g
by_both None a (Some to) d h g = absurd h
by_both (Some (Limit which at)) a None d h g = absurd h
by_both (Some (Limit which at)) a (Some to) d h g = h
by_both (Some (Syntax at)) a c d h g = absurd h
by_both (Some NoMemory) a c d h g = absurd h

nothing_more : (m : Option ParseError) (c : Option ℕ) → Agrees m (option_or c None) → Agrees m c
nothing_more m None h = h
nothing_more m (Some at) h = h

-- no later token passes a limit
none_more : (tokens front rest : List Token) (a : After front 0 start none_yet) → tokens ≡ front ++ rest
    → passes rest a.nodes a.stack a.values ≡ None → Agrees (first_limit tokens) (counts.count_first_limit tokens front)
none_more tokens front rest a all none =
    let P : Option ParseError → Type 0 = λ m. Agrees m None in
    let Q : List Token → Type 0 = λ l. Agrees (passes l 0 start none_yet) (counted front) in
    let last : Agrees (passes rest a.nodes a.stack a.values) None = subst P (sym none) tt in
    by_both (too_many tokens) (passes tokens 0 start none_yet) (counts.count_too_many tokens) (counted front)
    (many_agree tokens) (subst Q (sym all) (nothing_more (passes (front ++ rest) 0 start none_yet) (counted front)
    (a.same rest None last)))

passes_end : (n : ℕ) (s : List Part) (vs : List ParsedValue) → passes [] n s vs ≡ None
unfolding passes
passes_end n s vs = refl

pub derived_limit : (tokens : List Token) (x : Source) → Derives tokens x
    → Agrees (first_limit tokens) (counts.count_first_limit tokens tokens)
derived_limit tokens x d =
    let P : List Token → Type 0 = λ l. IsClasses l [] x.classes in
    let a = after_viable tokens ([], x, subst P (sym (append-nil tokens)) d) in
    none_more tokens tokens [] a (sym (append-nil tokens)) (passes_end a.nodes a.stack a.values)

-- ---- a wrong token

wrong_step : (front : List Token) (a : After front 0 start none_yet) (t : Token) (ts : List Token) (step : Step)
    → walk a.stack a.nodes a.values t ≡ step
    → ((more : List Token) (x : Source) → Derives (front ++ t ∷ more) x → ⊥)
    → passing t.at (bracket ts) (passes ts) step ≡ None
wrong_step front a t ts Wrong w dead = refl
wrong_step front a t ts (Next mark n s vs) w dead =
    let r = productive s vs in
    let P : Step → Type 0 = λ x. Then_gen x r.0 r.1 in
    let g = a.behind (t ∷ r.0) r.1 (walk_sound a.stack a.nodes a.values t r.0 r.1 (subst P (sym w) r.2)) in
    let x = from_gen (front ++ t ∷ r.0) r.1 g in
    absurd (dead r.0 (source x.0) x.1)

none_behind : (front rest : List Token) (a : After front 0 start none_yet)
    → ((more : List Token) (x : Source) → Behind rest more → Derives (front ++ more) x → ⊥)
    → passes rest a.nodes a.stack a.values ≡ None
unfolding passes
none_behind front [] a dead = refl
none_behind front (t ∷ ts) a dead =
    wrong_step front a t ts (walk a.stack a.nodes a.values t) refl (λ more x. dead (t ∷ more) x (more, refl))

pub wrong_limit : (end : ℕ) (tokens : List Token) (at : ℕ) (w : IsWrongAt end tokens at)
    → Agrees (first_limit tokens) (counts.count_first_limit tokens w.front)
wrong_limit end tokens at w =
    let a = after_viable w.front w.viable in
    none_more tokens w.front w.rest a w.all (none_behind w.front w.rest a w.wrong)

-- ---- a limit that is passed

agreed : (m : Option ParseError) (at : ℕ) → Agrees m (Some at) → (which : LimitKind) × (m ≡ Some (Limit which at))
agreed None at h = absurd h
agreed (Some (Limit which to)) at h = (which, ap (λ k. Some (Limit which k)) h)
agreed (Some (Syntax to)) at h = absurd h
agreed (Some NoMemory) at h = absurd h

by_first : (m all : Option ParseError) (c p x : Option ℕ) (at : ℕ) → Agrees m c → Agrees all (option_or p x)
    → option_or c p ≡ Some at → Agrees (or_else m all) (Some at)
by_first None all None p x at h g e =
    let P : Option ℕ → Type 0 = λ o. Agrees all (option_or o x) in
    subst P e g
by_first None all (Some to) p x at h g e = absurd h
by_first (Some (Limit which place)) all None p x at h g e = absurd h
by_first (Some (Limit which place)) all (Some to) p x at h g e = let same : to ≡ at = cc in h ∙ same
by_first (Some (Syntax place)) all c p x at h g e = absurd h
by_first (Some NoMemory) all c p x at h g e = absurd h

mark_agrees : (at : ℕ) (which : Option LimitKind) (m : Option ParseError) → (x : Option ℕ) × Agrees m x
    → (x : Option ℕ) × Agrees (passing_by at which m) x
mark_agrees at None m h = h
mark_agrees at (Some which) m h = (Some at, refl)

step_agrees : (at : ℕ) (b : Bool) (ts : List Token) (step : Step)
    → ((n : ℕ) (s : List Part) (vs : List ParsedValue) → (x : Option ℕ) × Agrees (passes ts n s vs) x)
    → (x : Option ℕ) × Agrees (passing at b (passes ts) step) x
step_agrees at b ts Wrong below = (None, tt)
step_agrees at b ts (Next mark n s vs) below = mark_agrees at (passed mark b) (passes ts n s vs) (below n s vs)

-- the reader finds limits, and no other errors
agrees : (ts : List Token) (n : ℕ) (s : List Part) (vs : List ParsedValue)
    → (x : Option ℕ) × Agrees (passes ts n s vs) x
unfolding passes
agrees [] n s vs = (None, tt)
agrees (t ∷ ts) n s vs = step_agrees t.at (bracket ts) ts (walk s n vs t) (λ n s vs. agrees ts n s vs)

pub begun_limit : (tokens : List Token) (b : Begins tokens) (at : ℕ) → counts.count_first_limit tokens b.front ≡ Some at
    → (which : LimitKind) × (first_limit tokens ≡ Some (Limit which at))
begun_limit tokens b at h =
    let a = after_viable b.front b.viable in
    let x = agrees b.rest a.nodes a.stack a.values in
    let Q : List Token → Type 0 = λ l. Agrees (passes l 0 start none_yet) (option_or (counted b.front) x.0) in
    agreed (first_limit tokens) at (by_first (too_many tokens) (passes tokens 0 start none_yet)
    (counts.count_too_many tokens) (counted b.front) x.0 at (many_agree tokens)
    (subst Q (sym b.all) (a.same b.rest x.0 x.1)) h)

-- some first tokens with which those of a value may begin, and one of them passes this limit
record Found (ts : List Token) (n : ℕ) (s : List Part) (vs : List ParsedValue) (e : ParseError) : Type 0 where
  front : List Token
  rest : List Token
  all : ts ≡ front ++ rest
  alive : (more : List Token) × (q : ParsedValue) × Gen s vs (front ++ more) q
  full : Agrees (Some e) (counts.count_passes front n (outline s))

at_once : (at : ℕ) (b : Bool) (mark : Mark) (n : ℕ) (s : List Part) (vs : List ParsedValue) (to : counts.CountStep)
    (next : ℕ → List counts.CountPart → Option ℕ) (which : LimitKind) → Follows (Next mark n s vs) to
    → passed mark b ≡ Some which → counts.count_passing at next to ≡ Some at
at_once at b mark n s vs (counts.To false m u) next which h e =
    let one = ap is_some e in
    let none = h.0 b in
    cc
at_once at b mark n s vs (counts.To true m u) next which h e = refl

further : (at : ℕ) (b : Bool) (mark : Mark) (n : ℕ) (s : List Part) (vs : List ParsedValue) (to : counts.CountStep)
    (next : ℕ → List counts.CountPart → Option ℕ) (e : ParseError) → Follows (Next mark n s vs) to
    → passed mark b ≡ None → Agrees (Some e) (next n (outline s)) → Agrees (Some e) (counts.count_passing at next to)
further at b mark n s vs (counts.To false m u) next e h none g =
    let P : ℕ → Type 0 = λ k. Agrees (Some e) (next k u) in
    let Q : List counts.CountPart → Type 0 = λ v. Agrees (Some e) (next n v) in
    subst P h.1 (subst Q h.2 g)
further at b mark n s vs (counts.To true m u) next e h none g =
    let no = ap is_some none in
    let one = h.0 b in
    absurd (cc)

found_mark : (t : Token) (ts : List Token) (n : ℕ) (s : List Part) (vs : List ParsedValue) (e : ParseError)
    (mark : Mark)
    (n' : ℕ) (s' : List Part) (vs' : List ParsedValue) (which : Option LimitKind) → walk s n vs t ≡ Next mark n' s' vs'
    → Follows (Next mark n' s' vs') (counts.count_walk (outline s) n t.kind) → passed mark (bracket ts) ≡ which
    → (passes ts n' s' vs' ≡ Some e → Found ts n' s' vs' e)
    → passing_by t.at which (passes ts n' s' vs') ≡ Some e → Found (t ∷ ts) n s vs e
unfolding counted_passes
found_mark t ts n s vs e mark n' s' vs' (Some which) w follows m below h =
    let a = productive s' vs' in
    let P : Step → Type 0 = λ x. Then_gen x a.0 a.1 in
    let Q : Option ParseError → Type 0 = λ o. Agrees o (Some t.at) in
    let R : Option ℕ → Type 0 = λ o. Agrees (Some e) o in
    record {
      front = t ∷ [];
      rest = ts;
      all = refl;
      alive = (a.0, a.1, walk_sound s n vs t a.0 a.1 (subst P (sym w) a.2));
      full = subst R (sym (at_once t.at (bracket ts) mark n' s' vs' (counts.count_walk (outline s) n t.kind)
          (counts.count_passes []) which follows m)) (subst Q h refl);
    }
found_mark t ts n s vs e mark n' s' vs' None w follows m below h =
    let r = below h in
    let a = r.alive in
    let P : Step → Type 0 = λ x. Then_gen x (r.front ++ a.0) a.1 in
    record {
      front = t ∷ r.front;
      rest = r.rest;
      all = ap (λ l. t ∷ l) r.all;
      alive = (a.0, a.1, walk_sound s n vs t (r.front ++ a.0) a.1 (subst P (sym w) a.2));
      full = further t.at (bracket ts) mark n' s' vs' (counts.count_walk (outline s) n t.kind)
          (counts.count_passes r.front) e
          follows m r.full;
    }

found_step : (t : Token) (ts : List Token) (n : ℕ) (s : List Part) (vs : List ParsedValue) (e : ParseError)
    (step : Step)
    → walk s n vs t ≡ step → Fits n s
    → ((m : ℕ) (u : List Part) (ws : List ParsedValue) → Fits m u → passes ts m u ws ≡ Some e → Found ts m u ws e)
    → passing t.at (bracket ts) (passes ts) step ≡ Some e → Found (t ∷ ts) n s vs e
found_step t ts n s vs e Wrong w h below g = cc
found_step t ts n s vs e (Next mark n' s' vs') w h below g =
    let P : Step → Type 0 = λ x. Follows x (counts.count_walk (outline s) n t.kind) in
    let follows = subst P w (walk_follows s n vs t h) in
    found_mark t ts n s vs e mark n' s' vs' (passed mark (bracket ts)) w follows refl
    (below n' s' vs' (fits_of mark n' s' vs' (counts.count_walk (outline s) n t.kind) follows)) g

found : (ts : List Token) (n : ℕ) (s : List Part) (vs : List ParsedValue) (e : ParseError) → Fits n s
    → passes ts n s vs ≡ Some e → Found ts n s vs e
unfolding passes
found [] n s vs e h g = cc
found (t ∷ ts) n s vs e h g =
    found_step t ts n s vs e (walk s n vs t) refl h (λ m u ws. found ts m u ws e) g

abbrev nothing_read : (tokens : List Token) → Begins tokens
nothing_read tokens = record { front = []; rest = tokens; all = refl; viable = ([], source [], no_class) }

placed : (which : LimitKind) (at : ℕ) (c : Option ℕ) → Agrees (Some (Limit which at)) c → c ≡ Some at
placed which at None h = absurd h
placed which at (Some to) h = ap Some (sym h)

by_many : (tokens : List Token) (m : Option ParseError) (c : Option ℕ) (which : LimitKind) (at : ℕ) → Agrees m c
    → or_else m (passes tokens 0 start none_yet) ≡ Some (Limit which at)
    → (b : Begins tokens) × (option_or c (counted b.front) ≡ Some at)
by_many tokens None None which at g h =
    let r = found tokens 0 start none_yet (Limit which at) refl h in
    let a = r.alive in
    let x = from_gen (r.front ++ a.0) a.1 a.2 in (
      record { front = r.front; rest = r.rest; all = r.all; viable = (a.0, source x.0, x.1) },
      placed which at (counted r.front) r.full,
    )
by_many tokens None (Some to) which at g h = absurd g
by_many tokens (Some l) c which at g h =
    let P : Option ParseError → Type 0 = λ o. Agrees o c in
    let some : c ≡ Some at = placed which at c (subst P h g) in
    (nothing_read tokens, ap (λ o. option_or o (counted [])) some)

pub limit_begun : (tokens : List Token) (which : LimitKind) (at : ℕ) → first_limit tokens ≡ Some (Limit which at)
    → (b : Begins tokens) × (counts.count_first_limit tokens b.front ≡ Some at)
limit_begun tokens which at h =
    by_many tokens (too_many tokens) (counts.count_too_many tokens) which at (many_agree tokens) h

pub none_by : (m : Option ParseError) (c : Option ℕ) → Agrees m c → c ≡ None → m ≡ None
none_by None c h e = refl
none_by (Some (Limit which at)) None h e = absurd h
none_by (Some (Limit which at)) (Some to) h e = cc
none_by (Some (Syntax at)) c h e = absurd h
none_by (Some NoMemory) c h e = absurd h

pub none_for : (m : Option ParseError) (c : Option ℕ) → Agrees m c → m ≡ None → c ≡ None
none_for m None h e = refl
none_for None (Some at) h e = absurd h
none_for (Some (Limit which at)) (Some to) h e = cc
none_for (Some (Syntax at)) (Some to) h e = absurd h
none_for (Some NoMemory) (Some to) h e = absurd h
