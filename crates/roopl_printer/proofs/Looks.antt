-- Tokens that look like printed ones.
use Rattle.std.proofs.Common.{ℕ, ◌+◌, List, [], ◌∷◌, ◌++◌, length, subst, append_assoc}
use Rattle.roopl_parser.specs.roopl_lexer.declared.token.Token.{Token}
use Rattle.roopl_parser.specs.Operators.{Span, tok}
use Rattle.roopl_printer.specs.Printed.{PrintedToken, kind_bytes}
use Rattle.roopl_printer.proofs.Cutting.{laid}

-- the tokens are of the kinds of these printed ones, and then the rest follows
pub data Looks : List PrintedToken → List Token → List Token → Type 0 where
  none : {rest : List Token} → Looks [] rest rest
  next : {p : PrintedToken} {ps : List PrintedToken} {a : Span} {ts rest : List Token} → Looks ps ts rest
      → Looks (p ∷ ps) (tok a p.kind ∷ ts) rest

-- what looks like two lists, one after the other
pub record Parted (xs ys : List PrintedToken) (ts rest : List Token) : Type 0 where
  pub mid : List Token
  pub front : Looks xs ts mid
  pub back : Looks ys mid rest

pub parted : (xs ys : List PrintedToken) {ts rest : List Token} → Looks (xs ++ ys) ts rest → Parted xs ys ts rest
parted [] ys {ts} looks = record { mid = ts; front = none; back = looks }
parted (x ∷ xs) ys (next looks) = let p = parted xs ys looks in
    record { mid = p.mid; front = next p.front; back = p.back }

-- what looks like three lists, the first apart from the others
pub apart : (xs ys zs : List PrintedToken) {ts rest : List Token} → Looks (xs ++ ys ++ zs) ts rest
    → Parted xs (ys ++ zs) ts rest
apart xs ys zs {ts} {rest} looks = parted xs (ys ++ zs) (subst (λ l. Looks l ts rest) (append_assoc xs ys zs) looks)

-- printed tokens look like what was printed
pub laid_looks : (at : ℕ) (ts : List PrintedToken) → Looks ts (laid at ts) []
laid_looks at [] = none
laid_looks at (t ∷ ts) = next {a = record { at = at; len = length (kind_bytes t.kind) }}
    (laid_looks (at + length (kind_bytes t.kind) + 1) ts)
