-- Reading computes on whole lists of tokens.
use Rattle.std.specs.Prelude.{◌≡◌, ℕ, List, [], ◌∷◌, None, Ok, Err, refl, codes}
use Rattle.roopl_lexer.specs.rpp_tree.declared.tree.VarType.TheVariants as kind
use Rattle.roopl_lexer.specs.rpp_tree.declared.tree.BinOp.TheVariants as op
use Rattle.roopl_lexer.specs.rpp_tree.declared.tree.UpdateOp.TheVariants as update
use Rattle.roopl_lexer.specs.rpp_tree.Tree.{Number, Binary, Whole, Update, End, Then, ClassText}
use Rattle.roopl_lexer.specs.declared.token.Token.{Token}
use Rattle.roopl_lexer.specs.declared.token.TokenKind.{TokenKind}
use Rattle.roopl_lexer.specs.declared.token.TokenKind.TheVariants.{Word, Name, Number as Numeral, Sign}
use Rattle.roopl_lexer.specs.declared.token.Keyword.TheVariants as word
use Rattle.roopl_lexer.specs.declared.token.Symbol.TheVariants as sign
use Rattle.roopl_parser.specs.declared.error.ParseError.TheVariants.{Syntax}
use Rattle.roopl_parser.specs.Operators.{tok}
use Rattle.roopl_parser.specs.Reader.{Classes, scan, walk, ends}
use Rattle.roopl_parser.specs.Viable.{reading}

abbrev at : ℕ → TokenKind → Token
at place kind = tok (record { at = place; len = 1 }) kind

abbrev head : List Token → List Token
head rest = at 0 (Word word.Class) ∷ at 1 (Name (codes "P")) ∷ at 2 (Word word.Int) ∷ at 3 (Name (codes "x"))
    ∷ at 4 (Word word.Method) ∷ at 5 (Name (codes "main")) ∷ at 6 (Sign sign.LeftParen) ∷ at 7 (Sign sign.RightParen)
    ∷ at 8 (Name (codes "x")) ∷ at 9 (Sign sign.AddTo) ∷ rest

minus_tree : List ClassText
minus_tree = record {
  name = record { at = 1; text = codes "P" };
  parent = None;
  fields = record { kind = kind.Int; name = record { at = 3; text = codes "x" } } ∷ [];
  methods = record {
    name = record { at = 5; text = codes "main" };
    params = [];
    body = Then (Update 8 update.Add (Whole (record { at = 8; text = codes "x" }))
        (Binary 13 op.Sub (Binary 11 op.Sub (Number 10 1) (Number 12 2)) (Number 14 3))) End;
  } ∷ [];
} ∷ []

-- three operands group to the left
minus_groups : reading 99 (head (at 10 (Numeral 1) ∷ at 11 (Sign sign.Minus) ∷ at 12 (Numeral 2)
    ∷ at 13 (Sign sign.Minus) ∷ at 14 (Numeral 3) ∷ [])) ≡ Ok (Classes minus_tree)
unfolding scan walk ends minus_tree
minus_groups = refl

-- a text that ends within a statement is refused at its end, one with a wrong token at that
cut_off : reading 99 (head []) ≡ Err (Syntax 99)
unfolding scan walk ends
cut_off = refl

wrong_token : reading 99 (head (at 10 (Sign sign.RightParen) ∷ [])) ≡ Err (Syntax 10)
unfolding scan walk ends
wrong_token = refl
