-- The operators, and the offset of a token.
use Rattle.std.specs.Prelude.{ℕ, List, Option, Some, None, nat_eq, cond}
use Rattle.roopl_lexer.specs.rpp_tree.declared.tree.Ident.{Ident}
use Rattle.roopl_lexer.specs.rpp_tree.declared.tree.BinOp.{BinOp}
use Rattle.roopl_lexer.specs.rpp_tree.declared.tree.BinOp.TheVariants as op
use Rattle.roopl_lexer.specs.rpp_tree.declared.tree.UpdateOp.{UpdateOp}
use Rattle.roopl_lexer.specs.rpp_tree.declared.tree.UpdateOp.TheVariants as update
use Rattle.roopl_lexer.specs.declared.token.Token.{Token}
use Rattle.roopl_lexer.specs.declared.token.TokenKind.{TokenKind}
use Rattle.roopl_lexer.specs.declared.token.TokenKind.TheVariants.{Sign}
use Rattle.roopl_lexer.specs.declared.token.Symbol.TheVariants as sign

-- the offset of a token, and its length
pub record Span : Type 0 where
  pub at : ℕ
  pub len : ℕ

-- the token of a kind at that offset
abbrev pub tok : Span → TokenKind → Token
tok span kind = record { kind = kind; at = span.at; len = span.len }

-- the name at that offset
abbrev pub ident : Span → List ℕ → Ident
ident span text = record { at = span.at; text = text }

-- the binary operator that a token is, with its level: those at level 1 bind strongest
abbrev pub binary_operator : TokenKind → Option (ℕ × BinOp)
binary_operator (Sign sign.Star) = Some (1, op.Mul)
binary_operator (Sign sign.Slash) = Some (1, op.Div)
binary_operator (Sign sign.Percent) = Some (1, op.Rem)
binary_operator (Sign sign.Plus) = Some (2, op.Add)
binary_operator (Sign sign.Minus) = Some (2, op.Sub)
binary_operator (Sign sign.Less) = Some (3, op.Less)
binary_operator (Sign sign.Greater) = Some (3, op.Greater)
binary_operator (Sign sign.AtMost) = Some (3, op.AtMost)
binary_operator (Sign sign.AtLeast) = Some (3, op.AtLeast)
binary_operator (Sign sign.Equal) = Some (4, op.Equal)
binary_operator (Sign sign.NotEqual) = Some (4, op.NotEqual)
binary_operator (Sign sign.Amp) = Some (5, op.And)
binary_operator (Sign sign.Caret) = Some (6, op.Xor)
binary_operator (Sign sign.Bar) = Some (7, op.Or)
binary_operator (Sign sign.AmpAmp) = Some (8, op.AndAlso)
binary_operator (Sign sign.BarBar) = Some (9, op.OrElse)
binary_operator _ = None

abbrev pub at_level : ℕ → Option (ℕ × BinOp) → Option BinOp
at_level level None = None
at_level level (Some (binds, op)) = cond (nat_eq level binds) (Some op) None

-- the operator of this level that a token is
abbrev pub operator_at : ℕ → TokenKind → Option BinOp
operator_at level kind = at_level level (binary_operator kind)

-- how a token updates a place
abbrev pub update_operator : TokenKind → Option UpdateOp
update_operator (Sign sign.AddTo) = Some update.Add
update_operator (Sign sign.SubFrom) = Some update.Sub
update_operator (Sign sign.XorInto) = Some update.Xor
update_operator _ = None
