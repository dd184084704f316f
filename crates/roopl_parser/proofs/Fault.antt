-- Where reading stops.
use Rattle.std.specs.Prelude.{◌≡◌, ◌≢◌, ℕ, Bool, true, false, List, [], ◌∷◌, ◌++◌, Option, Some, None, Result, Ok, Err}
use Rattle.std.specs.Prelude.{refl}
use Rattle.std.proofs.Common.{subst, sym, ap}
use Rattle.roopl_lexer.specs.rpp_tree.declared.limits.LimitKind.{LimitKind}
use Rattle.roopl_lexer.specs.declared.token.Token.{Token}
use Rattle.roopl_lexer.specs.declared.token.Symbol.TheVariants as sign
use Rattle.roopl_parser.specs.declared.error.ParseError.{ParseError}
use Rattle.roopl_parser.specs.declared.error.ParseError.TheVariants.{Syntax, Limit}
use Rattle.roopl_parser.specs.Reader.{ParsedValue, Part, Step, Mark, More, Index, Brackets, Sized, Stmts, Count, Build}
use Rattle.roopl_parser.specs.Reader.{Parent, Fields, Procedures, Program, AParent, MakeWhole, MakeObject, build, Wrong}
use Rattle.roopl_parser.specs.Reader.{Next, walk, ends, scan, led, passed, stopped, here, is_sign}
use Rattle.roopl_parser.specs.Viable.{offset_at, Behind, passing_by, passing, passes, unless}
use Rattle.roopl_parser.proofs.Sound.{Gen, Then_gen, walk_sound, ends_sound}
use Rattle.roopl_parser.proofs.Productive.{productive}

abbrev pub bracket : List Token → Bool
bracket ts = here (is_sign sign.LeftBracket) ts

pub record Stop (at : ℕ) (ts : List Token) (n : ℕ) (s : List Part) (vs : List ParsedValue) (e : ParseError) : Type 0
  where
    pub front : List Token
    pub rest : List Token
    pub all : ts ≡ front ++ rest
    pub place : e ≡ Syntax (offset_at at rest)
    pub alive : (more : List Token) × (q : ParsedValue) × Gen s vs (front ++ more) q
    pub dead : (more : List Token) (q : ParsedValue) → Behind rest more → scan false at (front ++ more) n s vs ≢ Ok q

led_sound : (at to : ℕ) (b : Bool) (ts : List Token) (step : Step) (q : ParsedValue)
    → ((n : ℕ) (s : List Part) (vs : List ParsedValue) → scan false at ts n s vs ≡ Ok q → Gen s vs ts q)
    → led false to b (scan false at ts) step ≡ Ok q → Then_gen step ts q
led_sound at to b ts Wrong q below h = cc
led_sound at to b ts (Next m n s vs) q below h = below n s vs h

-- what is read without the limits, the grammar derives
pub free_sound : (at : ℕ) (ts : List Token) (n : ℕ) (s : List Part) (vs : List ParsedValue) (q : ParsedValue)
    → scan false at ts n s vs ≡ Ok q → Gen s vs ts q
unfolding scan
free_sound at [] n s vs q h = ends_sound at s vs q h
free_sound at (t ∷ ts) n s vs q h = walk_sound s n vs t ts q
    (led_sound at t.at (bracket ts) ts (walk s n vs t) q (λ n s vs. free_sound at ts n s vs q) h)

ends_place : (at : ℕ) (s : List Part) (vs : List ParsedValue) (e : ParseError) → ends at s vs ≡ Err e → e ≡ Syntax at
unfolding ends
ends_place at [] vs e h = cc
ends_place at (More k p i ∷ s) vs e h = ends_place at s vs e h
ends_place at (Index p i ∷ s) vs e h = ends_place at s (build MakeWhole vs) e h
ends_place at (Brackets ∷ s) vs e h = ends_place at s vs e h
ends_place at (Sized ∷ s) vs e h = ends_place at s (build MakeObject vs) e h
ends_place at (Stmts d l ∷ s) vs e h = ends_place at s vs e h
ends_place at (Count n ∷ s) vs e h = ends_place at s vs e h
ends_place at (Build r ∷ s) vs e h = ends_place at s (build r vs) e h
ends_place at (Parent ∷ s) vs e h = ends_place at s (AParent None ∷ vs) e h
ends_place at (Fields ∷ s) vs e h = ends_place at s vs e h
ends_place at (Procedures ∷ s) vs e h = ends_place at s vs e h
ends_place at (Program c ∷ s) vs e h = ends_place at s vs e h
ends_place at (_ ∷ s) vs e h = cc

stop_step : (at : ℕ) (t : Token) (ts : List Token) (n : ℕ) (s : List Part) (vs : List ParsedValue) (e : ParseError)
    (step : Step) → walk s n vs t ≡ step → ((m : ℕ) (u : List Part) (ws : List ParsedValue)
    → scan false at ts m u ws ≡ Err e
    → Stop at ts m u ws e) → led false t.at (bracket ts) (scan false at ts) step ≡ Err e → Stop at (t ∷ ts) n s vs e
unfolding scan
stop_step at t ts n s vs e Wrong w below h = record {
  front = [];
  rest = t ∷ ts;
  all = refl;
  place = cc;
  alive = productive s vs;
  dead = λ more q b k.
      let P : List Token → Type 0 = λ l. scan false at l n s vs ≡ Ok q in
      let Q : Step → Type 0 = λ x. led false t.at (bracket b.0) (scan false at b.0) x ≡ Ok q in
      let bad : Err (Syntax t.at) ≡ Ok q = subst Q w (subst P b.1 k) in
      cc;
}
stop_step at t ts n s vs e (Next m n' s' vs') w below h =
    let r = below n' s' vs' h in
    let a = r.alive in
    let P : Step → Type 0 = λ x. Then_gen x (r.front ++ a.0) a.1 in
    record {
      front = t ∷ r.front;
      rest = r.rest;
      all = ap (λ l. t ∷ l) r.all;
      place = r.place;
      alive = (a.0, a.1, walk_sound s n vs t (r.front ++ a.0) a.1 (subst P (sym w) a.2));
      dead = λ more q b k.
          let Q : Step → Type 0 = λ x. led false t.at (bracket (r.front ++ more)) (scan false at (r.front ++ more)) x
          ≡ Ok q in
          r.dead more q b (subst Q w k);
    }

-- where reading without the limits stops: some value is read after the tokens before, and none with
-- the token
pub stop : (at : ℕ) (ts : List Token) (n : ℕ) (s : List Part) (vs : List ParsedValue) (e : ParseError)
    → scan false at ts n s vs ≡ Err e → Stop at ts n s vs e
unfolding scan
stop at [] n s vs e h = record {
  front = [];
  rest = [];
  all = refl;
  place = ends_place at s vs e h;
  alive = productive s vs;
  dead = λ more q b k.
      let P : List Token → Type 0 = λ l. scan false at l n s vs ≡ Ok q in
      let bad : ends at s vs ≡ Ok q = subst P b k in
      cc;
}
stop at (t ∷ ts) n s vs e h = stop_step at t ts n s vs e (walk s n vs t) refl (λ m u ws. stop at ts m u ws e) h

by_mark : (at : ℕ) (which : Option LimitKind) (strict free : Result ParsedValue ParseError) (limit : Option ParseError)
    → strict ≡ unless limit free → stopped at which strict ≡ unless (passing_by at which limit) free
by_mark at None strict free limit h = h
by_mark at (Some which) strict free limit h = refl

run_step : (at to : ℕ) (b : Bool) (ts : List Token) (step : Step)
    → ((n : ℕ) (s : List Part) (vs : List ParsedValue) → scan true at ts n s vs
    ≡ unless (passes ts n s vs) (scan false at ts n s vs))
    → led true to b (scan true at ts) step ≡ unless (passing to b (passes ts) step)
    (led false to b (scan false at ts) step)
run_step at to b ts Wrong below = refl
run_step at to b ts (Next mark n s vs) below = by_mark to (passed mark b) (scan true at ts n s vs)
    (scan false at ts n s vs) (passes ts n s vs) (below n s vs)

-- reading with the limits is reading without them, up to the first limit that is passed
pub run_free : (at : ℕ) (ts : List Token) (n : ℕ) (s : List Part) (vs : List ParsedValue)
    → scan true at ts n s vs ≡ unless (passes ts n s vs) (scan false at ts n s vs)
unfolding scan passes
run_free at [] n s vs = refl
run_free at (t ∷ ts) n s vs = run_step at t.at (bracket ts) ts (walk s n vs t) (λ n s vs. run_free at ts n s vs)

pub record Over (ts : List Token) (s : List Part) (vs : List ParsedValue) (e : ParseError) : Type 0 where
  pub front : List Token
  pub token : Token
  pub rest : List Token
  pub which : LimitKind
  pub all : ts ≡ front ++ token ∷ rest
  pub place : e ≡ Limit which token.at
  pub alive : (more : List Token) × (q : ParsedValue) × Gen s vs (front ++ token ∷ more) q

over_mark : (t : Token) (ts : List Token) (n : ℕ) (s : List Part) (vs : List ParsedValue) (e : ParseError) (m : Mark)
    (n' : ℕ)
    (s' : List Part) (vs' : List ParsedValue) (which : Option LimitKind) → walk s n vs t ≡ Next m n' s' vs'
    → ((m : ℕ) (u : List Part) (ws : List ParsedValue) → passes ts m u ws ≡ Some e → Over ts u ws e)
    → passing_by t.at which (passes ts n' s' vs') ≡ Some e → Over (t ∷ ts) s vs e
over_mark t ts n s vs e m n' s' vs' (Some which) w below h =
    let a = productive s' vs' in
    let P : Step → Type 0 = λ x. Then_gen x a.0 a.1 in
    record {
      front = [];
      token = t;
      rest = ts;
      which = which;
      all = refl;
      place = cc;
      alive = (a.0, a.1, walk_sound s n vs t a.0 a.1 (subst P (sym w) a.2));
    }
over_mark t ts n s vs e m n' s' vs' None w below h =
    let r = below n' s' vs' h in
    let a = r.alive in
    let P : Step → Type 0 = λ x. Then_gen x (r.front ++ r.token ∷ a.0) a.1 in
    record {
      front = t ∷ r.front;
      token = r.token;
      rest = r.rest;
      which = r.which;
      all = ap (λ l. t ∷ l) r.all;
      place = r.place;
      alive = (a.0, a.1, walk_sound s n vs t (r.front ++ r.token ∷ a.0) a.1 (subst P (sym w) a.2));
    }

over_step : (t : Token) (ts : List Token) (n : ℕ) (s : List Part) (vs : List ParsedValue) (e : ParseError) (step : Step)
    → walk s n vs t ≡ step → ((m : ℕ) (u : List Part) (ws : List ParsedValue) → passes ts m u ws ≡ Some e
    → Over ts u ws e)
    → passing t.at (bracket ts) (passes ts) step ≡ Some e → Over (t ∷ ts) s vs e
over_step t ts n s vs e Wrong w below h = cc
over_step t ts n s vs e (Next m n' s' vs') w below h =
    over_mark t ts n s vs e m n' s' vs' (passed m (bracket ts)) w below h

-- where a limit is passed first: some value is read after the tokens up to that one, itself counted
pub over : (ts : List Token) (n : ℕ) (s : List Part) (vs : List ParsedValue) (e : ParseError)
    → passes ts n s vs ≡ Some e
    → Over ts s vs e
unfolding passes
over [] n s vs e h = cc
over (t ∷ ts) n s vs e h = over_step t ts n s vs e (walk s n vs t) refl (λ m u ws. over ts m u ws e) h
