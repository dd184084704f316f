-- The steps of reading an expression that count.
use Rattle.std.specs.Prelude.{◌≡◌, ℕ, suc, pred, ◌+◌, ◌-◌, ◌<◌, Bool, true, false, cond, List, ◌∷◌, Result}
use Rattle.std.specs.Prelude.{Some, nat_lt, refl}
use Rattle.std.proofs.Common.{sym, ◌∙◌, ap, lt-ltb, add-one}
use Rattle.roopl_lexer.specs.rpp_tree.declared.tree.BinOp.{BinOp}
use Rattle.roopl_lexer.specs.rpp_tree.declared.limits.TheConstants.{MOST_NODES, MOST_INDEX_DEPTH, MOST_PARENS}
use Rattle.roopl_lexer.specs.declared.token.Token.{Token}
use Rattle.roopl_lexer.specs.declared.token.Symbol.TheVariants as sign
use Rattle.roopl_parser.specs.declared.error.ParseError.{ParseError}
use Rattle.roopl_parser.specs.Operators.{operator_at}
use Rattle.roopl_parser.specs.Reader.{ParsedValue, Part, Level, More, Build, MakeBinary, Within, Element, node_mark}
use Rattle.roopl_parser.specs.Reader.{name_mark, parens_mark, passed, stopped, led, more, here, is_sign, walk, scan}
use Rattle.roopl_parser.proofs.Moves.{pred_sub}

pub parens_step : (end at p i n : ℕ) (b : Bool) (ts : List Token) (s : List Part) (vs : List ParsedValue)
    → p < MOST_PARENS
    → stopped at (passed (parens_mark p) b) (scan true end ts n (Level 9 (suc p) i ∷ s) vs)
    ≡ scan true end ts n (Level 9 (p + 1) i ∷ s) vs
parens_step end at p i n b ts s vs h = rw (lt-ltb p MOST_PARENS h, add-one p) refl

node_step : (at n : ℕ) (b : Bool) (next : Result ParsedValue ParseError) → n < MOST_NODES
    → stopped at (passed (node_mark n) b) next ≡ next
node_step at n b next h = rw (lt-ltb n MOST_NODES h) refl

by_depth : (t : Bool) (at : ℕ) (next : Result ParsedValue ParseError)
    → stopped at (passed (cond t Within Element) false) next ≡ next
by_depth true at next = refl
by_depth false at next = refl

by_bracket : (i : ℕ) (b : Bool) (at : ℕ) (next : Result ParsedValue ParseError) → (b ≡ true → i < MOST_INDEX_DEPTH)
    → stopped at (passed (cond (nat_lt i MOST_INDEX_DEPTH) Within Element) b) next ≡ next
by_bracket i true at next h = let l : i < MOST_INDEX_DEPTH = h refl in rw (lt-ltb i MOST_INDEX_DEPTH l) refl
by_bracket i false at next h = by_depth (nat_lt i MOST_INDEX_DEPTH) at next

-- a name that may have an index if one is there
pub name_step : (at n i : ℕ) (b : Bool) (next : Result ParsedValue ParseError) → n < MOST_NODES
    → (b ≡ true → i < MOST_INDEX_DEPTH) → stopped at (passed (name_mark n i) b) next ≡ next
name_step at n i b next h g = rw (lt-ltb n MOST_NODES h) (by_bracket i b at next g)

pub more_step : (end : ℕ) (tokens ts : List Token) (t : Token) (n m k p i : ℕ) (op : BinOp) (s : List Part)
    (vs : List ParsedValue) → tokens ≡ t ∷ ts → Some op ≡ operator_at k t.kind → n < MOST_NODES → m ≡ suc n
    → scan true end tokens n (More k p i ∷ s) vs ≡ scan true end ts m
    (Level (k - 1) p i ∷ Build (MakeBinary t.at op) ∷ More k p i ∷ s) vs
unfolding scan walk
more_step end tokens ts t n m k p i op s vs e o h g =
    ap (λ l. scan true end l n (More k p i ∷ s) vs) e
    ∙ ap (λ x. led true t.at (here (is_sign sign.LeftBracket) ts) (scan true end ts)
    (more k p i s n vs t.at (walk s n vs t) x)) (sym o)
    ∙ node_step t.at n (here (is_sign sign.LeftBracket) ts)
    (scan true end ts (suc n) (Level (pred k) p i ∷ Build (MakeBinary t.at op) ∷ More k p i ∷ s) vs) h
    ∙ ap (λ j. scan true end ts (suc n) (Level j p i ∷ Build (MakeBinary t.at op) ∷ More k p i ∷ s) vs) (pred_sub k)
    ∙ ap (λ j. scan true end ts j (Level (k - 1) p i ∷ Build (MakeBinary t.at op) ∷ More k p i ∷ s) vs) (sym g)
