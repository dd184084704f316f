-- More of how reading goes on over what takes no token.
use Rattle.std.specs.Prelude.{◌≡◌, ℕ, ◌<◌, ◌≤◌, Bool, true, false, List, [], ◌∷◌, cond, Result, Ok, Err, None, refl}
use Rattle.std.proofs.Common.{ap, ◌∙◌, lt-ltb, le-ltb}
use Rattle.roopl_lexer.specs.rpp_tree.declared.limits.LimitKind.TheVariants as limit
use Rattle.roopl_lexer.specs.rpp_tree.declared.limits.TheConstants.{MOST_PARAMETERS}
use Rattle.roopl_lexer.specs.declared.token.Token.{Token}
use Rattle.roopl_lexer.specs.declared.token.TokenKind.{TokenKind}
use Rattle.roopl_lexer.specs.declared.token.TokenKind.TheVariants as token
use Rattle.roopl_lexer.specs.declared.token.Keyword.TheVariants as word
use Rattle.roopl_lexer.specs.declared.token.Symbol.TheVariants as sign
use Rattle.roopl_parser.specs.declared.error.ParseError.{ParseError}
use Rattle.roopl_parser.specs.declared.error.ParseError.TheVariants.{Syntax, Limit}
use Rattle.roopl_parser.specs.Operators.{update_operator}
use Rattle.roopl_parser.specs.Reader.{Part, ParsedValue, Vars, Step, Wrong, Next, Mark, Within, Past, ASign, Spot}
use Rattle.roopl_parser.specs.Reader.{Brackets}
use Rattle.roopl_parser.specs.Reader.{Sized, Kind, Level, Build, MakeArray, MakeObjects, MakeSwap, Assign, Params}
use Rattle.roopl_parser.specs.Reader.{Param, MoreParams, a_type, types, brackets, sized, swapped, params, field_parts}
use Rattle.roopl_parser.specs.Reader.{here, is_sign, led, scan, walk, ends, ReaderGives}
use Rattle.roopl_parser.specs.Viable.{offset_at}

brackets_is : (s : List Part) (n : ℕ) (vs : List ParsedValue) (other : Step) (kind : TokenKind)
    → is_sign sign.LeftBracket kind ≡ true → brackets s n vs other kind
    ≡ cond (is_sign sign.LeftBracket kind) (Next Within n (ASign sign.RightBracket ∷ Build MakeArray ∷ s) vs) Wrong
brackets_is s n vs other (token.Sign sign.LeftBracket) h = refl
brackets_is s n vs other _ h = cc

sized_is : (s : List Part) (n : ℕ) (vs : List ParsedValue) (other : Step) (kind : TokenKind)
    → is_sign sign.LeftBracket kind ≡ true → sized s n vs other kind
    ≡ cond (is_sign sign.LeftBracket kind) (Next Within n
    (Level 9 0 0 ∷ ASign sign.RightBracket ∷ Build MakeObjects ∷ s) vs) Wrong
sized_is s n vs other (token.Sign sign.LeftBracket) h = refl
sized_is s n vs other _ h = cc

params_is : (s : List Part) (n : ℕ) (vs : List ParsedValue) (other : Step) (kind : TokenKind)
    → is_sign sign.RightParen kind ≡ true → params s n vs other kind
    ≡ cond (is_sign sign.RightParen kind) (Next Within n s (Vars [] ∷ vs)) Wrong
params_is s n vs other (token.Sign sign.RightParen) h = refl
params_is s n vs other _ h = cc

params_not : (s : List Part) (n : ℕ) (vs : List ParsedValue) (other : Step) (kind : TokenKind)
    → is_sign sign.RightParen kind ≡ false → params s n vs other kind ≡ other
params_not s n vs other (token.Sign sign.RightParen) h = cc
params_not s n vs other _ h = refl

wrong_type : (s : List Part) (n : ℕ) (vs : List ParsedValue) (at : ℕ) (mark : Mark) (kind : TokenKind)
    → types kind ≡ false
    → a_type s n vs at mark Wrong kind ≡ Wrong
wrong_type s n vs at mark (token.Name x) h = cc
wrong_type s n vs at mark (token.Word word.Int) h = cc
wrong_type s n vs at mark _ h = refl

type_over : (at : ℕ) (bracket : Bool) (next : ℕ → List Part → List ParsedValue → Result ParsedValue ParseError)
    (s : List Part)
    (n : ℕ) (vs : List ParsedValue) (kind : TokenKind) → types kind ≡ true
    → led true at bracket next (a_type s n vs at (Past limit.Parameters) Wrong kind) ≡ Err (Limit limit.Parameters at)
type_over at bracket next s n vs (token.Name x) h = refl
type_over at bracket next s n vs (token.Word word.Int) h = refl
type_over at bracket next s n vs _ h = cc

swapped_is : (at : ℕ) (s : List Part) (n : ℕ) (vs : List ParsedValue) (kind : TokenKind)
    → swapped at s n vs kind ≡ cond (is_sign sign.Swap kind) (Next Within n (Spot ∷ Build (MakeSwap at) ∷ s) vs) Wrong
swapped_is at s n vs (token.Sign sign.Swap) = refl
swapped_is at s n vs _ = refl

module _ (strict : Bool) (end : ℕ) where
  pub run_brackets : (ts : List Token) (n : ℕ) (s : List Part) (vs : List ParsedValue)
      → here (is_sign sign.LeftBracket) ts ≡ true → scan strict end ts n (Brackets ∷ s) vs
      ≡ scan strict end ts n (ASign sign.LeftBracket ∷ ASign sign.RightBracket ∷ Build MakeArray ∷ s) vs
  unfolding scan walk ends
  run_brackets [] n s vs h = cc
  run_brackets (t ∷ ts) n s vs h = ap (led strict t.at (here (is_sign sign.LeftBracket) ts) (scan strict end ts))
      (brackets_is s n vs (walk s n vs t) t.kind h)

  pub run_sized : (ts : List Token) (n : ℕ) (s : List Part) (vs : List ParsedValue)
      → here (is_sign sign.LeftBracket) ts ≡ true → scan strict end ts n (Sized ∷ s) vs
      ≡ scan strict end ts n (ASign sign.LeftBracket ∷ Level 9 0 0 ∷ ASign sign.RightBracket ∷ Build MakeObjects ∷ s) vs
  unfolding scan walk ends
  run_sized [] n s vs h = cc
  run_sized (t ∷ ts) n s vs h = ap (led strict t.at (here (is_sign sign.LeftBracket) ts) (scan strict end ts))
      (sized_is s n vs _ t.kind h)

  pub run_params_end : (ts : List Token) (n : ℕ) (s : List Part) (vs : List ParsedValue)
      → here (is_sign sign.RightParen) ts ≡ true → scan strict end ts n (Params ∷ s) vs
      ≡ scan strict end ts n (ASign sign.RightParen ∷ s) (Vars [] ∷ vs)
  unfolding scan walk ends
  run_params_end [] n s vs h = cc
  run_params_end (t ∷ ts) n s vs h = ap (led strict t.at (here (is_sign sign.LeftBracket) ts) (scan strict end ts))
      (params_is s n vs _ t.kind h)

  pub run_params : (ts : List Token) (n : ℕ) (s : List Part) (vs : List ParsedValue)
      → here (is_sign sign.RightParen) ts ≡ false → scan strict end ts n (Params ∷ s) vs
      ≡ scan strict end ts n (Param 0 ∷ MoreParams 1 ∷ s) (Vars [] ∷ vs)
  unfolding scan walk ends
  run_params [] n s vs h = refl
  run_params (t ∷ ts) n s vs h = ap (led strict t.at (here (is_sign sign.LeftBracket) ts) (scan strict end ts))
      (params_not s n vs _ t.kind h)

  pub run_swap : (us ts : List Token) (t : Token) (n at : ℕ) (s : List Part) (vs : List ParsedValue) → us ≡ t ∷ ts
      → update_operator t.kind ≡ None → scan strict end us n (Assign at ∷ s) vs
      ≡ scan strict end us n (ASign sign.Swap ∷ Spot ∷ Build (MakeSwap at) ∷ s) vs
  unfolding scan walk ends
  run_swap us ts t n at s vs e h = rw (e, h, swapped_is at s n vs t.kind)

-- a parameter within the limit, one past it, and none
pub run_param : (end : ℕ) (ts : List Token) (n c : ℕ) (s : List Part) (vs : List ParsedValue) → c < MOST_PARAMETERS
    → scan true end ts n (Param c ∷ s) vs ≡ scan true end ts n (Kind ∷ field_parts s) vs
unfolding scan walk ends
run_param end [] n c s vs l = refl
run_param end (t ∷ ts) n c s vs l = rw (lt-ltb c MOST_PARAMETERS l)

pub run_param_over : (end : ℕ) (ts : List Token) (n c : ℕ) (s : List Part) (vs : List ParsedValue)
    → here types ts ≡ true
    → MOST_PARAMETERS ≤ c → scan true end ts n (Param c ∷ s) vs ≡ Err (Limit limit.Parameters (offset_at end ts))
unfolding scan walk ends
run_param_over end [] n c s vs h l = cc
run_param_over end (t ∷ ts) n c s vs h l = rw (le-ltb c MOST_PARAMETERS l)
    (type_over t.at (here (is_sign sign.LeftBracket) ts) (scan true end ts) (field_parts s) n vs t.kind h)

pub run_param_wrong : (end : ℕ) (ts : List Token) (n c : ℕ) (s : List Part) (vs : List ParsedValue)
    → here types ts ≡ false
    → scan true end ts n (Param c ∷ s) vs ≡ Err (Syntax (offset_at end ts))
unfolding scan walk ends
run_param_wrong end [] n c s vs h = refl
run_param_wrong end (t ∷ ts) n c s vs h = rw (wrong_type (field_parts s) n vs t.at _ t.kind h)

-- what a call gives serves where reading comes to its beginning with more on the stacks, and goes
-- on from its end
pub gives_through : {X : Type 0} (r : Result X ParseError)
    (first before : List Part → List ParsedValue → Result ParsedValue ParseError)
    (behind after : X → List Part → List ParsedValue → Result ParsedValue ParseError) (stack : List Part → List Part)
    (held : List ParsedValue → List ParsedValue) → ((s : List Part) (vs : List ParsedValue)
    → first s vs ≡ before (stack s) (held vs))
    → ((x : X) (s : List Part) (vs : List ParsedValue) → behind x (stack s) (held vs) ≡ after x s vs)
    → ReaderGives r before behind
    → ReaderGives r first after
gives_through (Ok x) first before behind after stack held come go gives = λ s vs. come s vs ∙ gives (stack s) (held vs)
    ∙ go x s vs
gives_through (Err e) first before behind after stack held come go gives = λ known s vs. come s vs
    ∙ gives known (stack s) (held vs)
