-- Tokens that a source may hold, and syntax trees of the grammar.
use Rattle.std.specs.Prelude.{◌≤◌, All}
use Rattle.roopl_parser.specs.rpp_tree.Names.{IsName}
use Rattle.roopl_parser.specs.rpp_tree.Tree.{Statement, Statements, Source, Walk, walk, walk_block}
use Rattle.roopl_parser.specs.roopl_lexer.declared.token.TokenKind.{TokenKind}
use Rattle.roopl_parser.specs.roopl_lexer.declared.token.TokenKind.TheVariants.{Word, Name, Number, Sign}
use Rattle.roopl_parser.specs.rpp_tree.declared.limits.TheConstants.{MOST_NUMBER}
use Rattle.roopl_printer.specs.Spelled.{spelled}

-- a name is one by the rule and no keyword, and a number is not too large
abbrev pub IsPrintable : TokenKind → Type 0
IsPrintable (Word keyword) = Unit {0}
IsPrintable (Name text) = IsName text
IsPrintable (Number n) = n ≤ MOST_NUMBER
IsPrintable (Sign sign) = Unit {0}

-- a number is not too large
abbrev pub IsSmallNumber : TokenKind → Type 0
IsSmallNumber (Word keyword) = Unit {0}
IsSmallNumber (Name text) = Unit {0}
IsSmallNumber (Number n) = n ≤ MOST_NUMBER
IsSmallNumber (Sign sign) = Unit {0}

-- that a block has a statement, and that the blocks inside it, or inside a statement, have
abbrev pub fullness : Walk (Type 0 × Type 0)
fullness = record {
  plain = λ at parts. (Unit {0}, Unit {0});
  forked = λ at before first second after.
      (Unit {0}, first.0 × first.1 × second.0 × second.1);
  construct = λ at class name body end. (Unit {0}, body.0 × body.1);
  local = λ at var value body end_var end_value. (Unit {0}, body.0 × body.1);
  none = (⊥, Unit {0});
  next = λ first said rest. (Unit {0}, said.1 × rest.1);
}

-- a block has a statement
abbrev pub HasStatement : Statements → Type 0
HasStatement body = (walk_block fullness body).0

-- the blocks inside a statement have statements
abbrev pub HasFullBlocks : Statement → Type 0
HasFullBlocks s = (walk fullness s).1

-- the same of the statements of a block
abbrev pub AreFull : Statements → Type 0
AreFull body = (walk_block fullness body).1

-- a syntax tree of the grammar: each block has a statement, and each number is one that a source
-- may hold
pub record IsOfGrammar (program : Source) : Type 0 where
  pub blocks : All (λ class. All (λ method. HasStatement method.body × AreFull method.body)
      class.methods) program.classes
  pub numbers : All (λ token. IsSmallNumber token.kind) (spelled program)
