-- The grammar: which tokens are what, up to a rest. One case for each production.
use Rattle.std.specs.Prelude.{◌≡◌, ℕ, suc, Bool, true, false, List, [], ◌∷◌, Option, Some, None}
use Rattle.roopl_lexer.specs.rpp_tree.declared.tree.Ident.{Ident}
use Rattle.roopl_lexer.specs.rpp_tree.declared.tree.Var.{Var}
use Rattle.roopl_lexer.specs.rpp_tree.declared.tree.VarType.{VarType}
use Rattle.roopl_lexer.specs.rpp_tree.declared.tree.VarType.TheVariants as kind
use Rattle.roopl_lexer.specs.rpp_tree.declared.tree.BinOp.{BinOp}
use Rattle.roopl_lexer.specs.rpp_tree.declared.tree.UpdateOp.{UpdateOp}
use Rattle.roopl_lexer.specs.rpp_tree.Tree.{Expression, Number, Null, Binary, Lvalue, Whole}
use Rattle.roopl_lexer.specs.rpp_tree.Tree.{Item, Creation, Object, Ints, Objects, Statement, Statements}
use Rattle.roopl_lexer.specs.rpp_tree.Tree.{Update, Swap, If, From, Construct, Local, New, Delete, Copy, Uncopy}
use Rattle.roopl_lexer.specs.rpp_tree.Tree.{Call, Skip, Procedure, ClassText, Source}
use Rattle.roopl_lexer.specs.rpp_tree.Views.{statements_of}
use Rattle.roopl_lexer.specs.declared.token.Token.{Token}
use Rattle.roopl_lexer.specs.declared.token.TokenKind.{TokenKind}
use Rattle.roopl_lexer.specs.declared.token.TokenKind.TheVariants.{Word, Name, Sign}
use Rattle.roopl_lexer.specs.declared.token.TokenKind.TheVariants as token
use Rattle.roopl_lexer.specs.declared.token.Keyword.{Keyword}
use Rattle.roopl_lexer.specs.declared.token.Keyword.TheVariants as word
use Rattle.roopl_lexer.specs.declared.token.Symbol.TheVariants as sign
use Rattle.roopl_parser.specs.Operators.{Span, tok, ident, operator_at, update_operator}
pub use Rattle.roopl_lexer.specs.rpp_tree.Tree.{lvalue_read}

-- the type of arrays of this
abbrev pub array_of : VarType → VarType
array_of kind.Int = kind.IntArray
array_of (kind.Class class) = kind.ClassArray class
array_of kind.IntArray = kind.IntArray
array_of (kind.ClassArray class) = kind.ClassArray class

mutual
  -- an expression whose operators outside parentheses and indexes are of this level at most
  pub data IsExpr : ℕ → List Token → List Token → Expression → Type 0 where
    number : {a : Span} {w : ℕ} {rest : List Token}
        → IsExpr 0 (tok a (token.Number w) ∷ rest) rest (Number a.at w)
    null : {a : Span} {rest : List Token} → IsExpr 0 (tok a (Word word.Nil) ∷ rest) rest (Null a.at)
    read : {a : Span} {name : List ℕ} {ts rest : List Token} {p : Lvalue}
        → IsIndexed (ident a name) ts rest p → IsExpr 0 (tok a (Name name) ∷ ts) rest (lvalue_read p)
    parens : {a b : Span} {ts rest : List Token} {e : Expression}
        → IsExpr 9 ts (tok b (Sign sign.RightParen) ∷ rest) e
        → IsExpr 0 (tok a (Sign sign.LeftParen) ∷ ts) rest e
    weaker : {k : ℕ} {ts rest : List Token} {e : Expression} → IsExpr k ts rest e
        → IsExpr (suc k) ts rest e
    binary : {k : ℕ} {a : Span} {kind : TokenKind} {op : BinOp} {ts mid rest : List Token}
        {l r : Expression} → IsExpr (suc k) ts (tok a kind ∷ mid) l
        → operator_at (suc k) kind ≡ Some op → IsExpr k mid rest r
        → IsExpr (suc k) ts rest (Binary a.at op l r)

  -- what follows the name of a place
  pub data IsIndexed : Ident → List Token → List Token → Lvalue → Type 0 where
    whole : {name : Ident} {rest : List Token} → IsIndexed name rest rest (Whole name)
    item : {name : Ident} {a b : Span} {ts rest : List Token} {e : Expression}
        → IsExpr 9 ts (tok b (Sign sign.RightBracket) ∷ rest) e
        → IsIndexed name (tok a (Sign sign.LeftBracket) ∷ ts) rest (Item name e)

-- a place
pub data IsPlace : List Token → List Token → Lvalue → Type 0 where
  place : {a : Span} {name : List ℕ} {ts rest : List Token} {p : Lvalue}
      → IsIndexed (ident a name) ts rest p → IsPlace (tok a (Name name) ∷ ts) rest p

-- what follows the first token of a type
pub data IsBracketed : VarType → List Token → List Token → VarType → Type 0 where
  plain : {k : VarType} {rest : List Token} → IsBracketed k rest rest k
  array : {k : VarType} {a b : Span} {rest : List Token}
      → IsBracketed k (tok a (Sign sign.LeftBracket) ∷ tok b (Sign sign.RightBracket) ∷ rest) rest
      (array_of k)

-- a type
pub data IsType : List Token → List Token → VarType → Type 0 where
  ints : {a : Span} {ts rest : List Token} {k : VarType} → IsBracketed kind.Int ts rest k
      → IsType (tok a (Word word.Int) ∷ ts) rest k
  objects : {a : Span} {name : List ℕ} {ts rest : List Token} {k : VarType}
      → IsBracketed (kind.Class (ident a name)) ts rest k → IsType (tok a (Name name) ∷ ts) rest k

-- a variable with its type
pub data IsVar : List Token → List Token → Var → Type 0 where
  var : {a : Span} {name : List ℕ} {ts rest : List Token} {k : VarType}
      → IsType ts (tok a (Name name) ∷ rest) k
      → IsVar ts rest (record { kind = k; name = ident a name })

-- what follows the class of what is made
pub data IsSized : Ident → List Token → List Token → Creation → Type 0 where
  one : {name : Ident} {rest : List Token} → IsSized name rest rest (Object name)
  sized : {name : Ident} {a b : Span} {ts rest : List Token} {e : Expression}
      → IsExpr 9 ts (tok b (Sign sign.RightBracket) ∷ rest) e
      → IsSized name (tok a (Sign sign.LeftBracket) ∷ ts) rest (Objects name e)

-- what is made or deleted
pub data IsMade : List Token → List Token → Creation → Type 0 where
  words : {a b c : Span} {ts rest : List Token} {e : Expression}
      → IsExpr 9 ts (tok c (Sign sign.RightBracket) ∷ rest) e
      → IsMade (tok a (Word word.Int) ∷ tok b (Sign sign.LeftBracket) ∷ ts) rest (Ints e)
  named : {a : Span} {name : List ℕ} {ts rest : List Token} {c : Creation}
      → IsSized (ident a name) ts rest c → IsMade (tok a (Name name) ∷ ts) rest c

-- the names after the first of a call, with the parenthesis
pub data IsMoreNames : List Token → List Token → List Ident → Type 0 where
  close : {a : Span} {rest : List Token} → IsMoreNames (tok a (Sign sign.RightParen) ∷ rest) rest []
  comma : {a b : Span} {name : List ℕ} {ts rest : List Token} {xs : List Ident}
      → IsMoreNames ts rest xs → IsMoreNames (tok a (Sign sign.Comma) ∷ tok b (Name name) ∷ ts) rest
      (ident b name ∷ xs)

-- the names of a call, with the parenthesis
pub data IsNames : List Token → List Token → List Ident → Type 0 where
  none : {a : Span} {rest : List Token} → IsNames (tok a (Sign sign.RightParen) ∷ rest) rest []
  some : {a : Span} {name : List ℕ} {ts rest : List Token} {xs : List Ident}
      → IsMoreNames ts rest xs → IsNames (tok a (Name name) ∷ ts) rest (ident a name ∷ xs)

-- what follows the first name of a call
pub data IsTarget : ℕ → Bool → Ident → List Token → List Token → Statement → Type 0 where
  own : {at : ℕ} {back : Bool} {name : Ident} {a : Span} {ts rest : List Token} {xs : List Ident}
      → IsNames ts rest xs → IsTarget at back name (tok a (Sign sign.LeftParen) ∷ ts) rest
      (Call at back None name xs)
  on : {at : ℕ} {back : Bool} {name : Ident} {a b c : Span} {method : List ℕ} {p : Lvalue}
      {ts mid rest : List Token} {xs : List Ident}
      → IsIndexed name ts (tok a (Sign sign.DoubleColon) ∷ tok b (Name method)
      ∷ tok c (Sign sign.LeftParen) ∷ mid) p → IsNames mid rest xs
      → IsTarget at back name ts rest (Call at back (Some p) (ident b method) xs)

-- what follows the place that a statement begins with
pub data IsAssigned : ℕ → Lvalue → List Token → List Token → Statement → Type 0 where
  update : {at : ℕ} {p : Lvalue} {a : Span} {kind : TokenKind} {op : UpdateOp}
      {ts rest : List Token} {e : Expression} → update_operator kind ≡ Some op → IsExpr 9 ts rest e
      → IsAssigned at p (tok a kind ∷ ts) rest (Update at op p e)
  swap : {at : ℕ} {p q : Lvalue} {a : Span} {ts rest : List Token} → IsPlace ts rest q
      → IsAssigned at p (tok a (Sign sign.Swap) ∷ ts) rest (Swap at p q)

mutual
  pub data IsStatement : List Token → List Token → Statement → Type 0 where
    assign : {a : Span} {name : List ℕ} {ts mid rest : List Token} {p : Lvalue} {x : Statement}
        → IsIndexed (ident a name) ts mid p → IsAssigned a.at p mid rest x
        → IsStatement (tok a (Name name) ∷ ts) rest x
    conditional : {a : Span} {ts mid rest : List Token} {test behind : Expression}
        {taken other : Statements} → IsExpr 9 ts mid test
        → IsBranches word.Then word.Else word.Fi mid rest taken other behind
        → IsStatement (tok a (Word word.If) ∷ ts) rest (If a.at test taken other behind)
    repeat : {a : Span} {ts mid rest : List Token} {entry exit : Expression}
        {first again : Statements} → IsExpr 9 ts mid entry
        → IsBranches word.Do word.Loop word.Until mid rest first again exit
        → IsStatement (tok a (Word word.From) ∷ ts) rest (From a.at entry first again exit)
    construct : {a b c d e : Span} {class name last : List ℕ} {ts rest : List Token}
        {body : Statements} → IsBlock ts (tok d (Word word.Destruct) ∷ tok e (Name last) ∷ rest)
        body → IsStatement (tok a (Word word.Construct) ∷ tok b (Name class) ∷ tok c (Name name)
        ∷ ts) rest (Construct a.at (ident b class) (ident c name) body (ident e last))
    declare : {a b : Span} {ts us mid rest : List Token} {v w : Var} {value end_value : Expression}
        {body : Statements} → IsVar ts (tok b (Sign sign.Equal) ∷ us) v → IsExpr 9 us mid value
        → IsScope mid rest body w end_value
        → IsStatement (tok a (Word word.Local) ∷ ts) rest (Local a.at v value body w end_value)
    make : {a : Span} {ts mid rest : List Token} {c : Creation} {p : Lvalue} → IsMade ts mid c
        → IsPlace mid rest p → IsStatement (tok a (Word word.New) ∷ ts) rest (New a.at c p)
    delete : {a : Span} {ts mid rest : List Token} {c : Creation} {p : Lvalue} → IsMade ts mid c
        → IsPlace mid rest p → IsStatement (tok a (Word word.Delete) ∷ ts) rest (Delete a.at c p)
    copy : {a : Span} {ts us vs rest : List Token} {k : VarType} {p q : Lvalue} → IsType ts us k
        → IsPlace us vs p → IsPlace vs rest q
        → IsStatement (tok a (Word word.Copy) ∷ ts) rest (Copy a.at k p q)
    uncopy : {a : Span} {ts us vs rest : List Token} {k : VarType} {p q : Lvalue} → IsType ts us k
        → IsPlace us vs p → IsPlace vs rest q
        → IsStatement (tok a (Word word.Uncopy) ∷ ts) rest (Uncopy a.at k p q)
    call : {a b : Span} {name : List ℕ} {ts rest : List Token} {x : Statement}
        → IsTarget a.at false (ident b name) ts rest x
        → IsStatement (tok a (Word word.Call) ∷ tok b (Name name) ∷ ts) rest x
    uncall : {a b : Span} {name : List ℕ} {ts rest : List Token} {x : Statement}
        → IsTarget a.at true (ident b name) ts rest x
        → IsStatement (tok a (Word word.Uncall) ∷ tok b (Name name) ∷ ts) rest x
    skip : {a : Span} {rest : List Token} → IsStatement (tok a (Word word.Skip) ∷ rest) rest
        (Skip a.at)

  -- two blocks and an expression, each after its keyword
  pub data IsBranches : Keyword → Keyword → Keyword → List Token → List Token → Statements
      → Statements → Expression → Type 0 where
    branches : {a b c : Span} {first second third : Keyword} {ts us vs rest : List Token}
        {taken other : Statements} {e : Expression} → IsBlock ts (tok b (Word second) ∷ us) taken
        → IsBlock us (tok c (Word third) ∷ vs) other → IsExpr 9 vs rest e
        → IsBranches first second third (tok a (Word first) ∷ ts) rest taken other e

  -- the statements in the scope of a local, and its end
  pub data IsScope : List Token → List Token → Statements → Var → Expression → Type 0 where
    scope : {a b : Span} {ts us vs rest : List Token} {body : Statements} {w : Var} {e : Expression}
        → IsBlock ts (tok a (Word word.Delocal) ∷ us) body
        → IsVar us (tok b (Sign sign.Equal) ∷ vs) w → IsExpr 9 vs rest e → IsScope ts rest body w e

  pub data IsBlock : List Token → List Token → Statements → Type 0 where
    block : {ts mid rest : List Token} {x : Statement} {xs : List Statement} → IsStatement ts mid x
        → IsStatements mid rest xs → IsBlock ts rest (statements_of (x ∷ xs))

  pub data IsStatements : List Token → List Token → List Statement → Type 0 where
    end : {rest : List Token} → IsStatements rest rest []
    then : {ts mid rest : List Token} {x : Statement} {xs : List Statement} → IsStatement ts mid x
        → IsStatements mid rest xs → IsStatements ts rest (x ∷ xs)

-- the parameters after the first, with the parenthesis
pub data IsMoreParams : List Token → List Token → List Var → Type 0 where
  last_param : {a : Span} {rest : List Token} → IsMoreParams (tok a (Sign sign.RightParen) ∷ rest)
      rest []
  next_param : {a : Span} {ts mid rest : List Token} {v : Var} {xs : List Var} → IsVar ts mid v
      → IsMoreParams mid rest xs → IsMoreParams (tok a (Sign sign.Comma) ∷ ts) rest (v ∷ xs)

-- the parameters of a method, with the parenthesis
pub data IsParams : List Token → List Token → List Var → Type 0 where
  no_param : {a : Span} {rest : List Token} → IsParams (tok a (Sign sign.RightParen) ∷ rest) rest []
  params : {ts mid rest : List Token} {v : Var} {xs : List Var} → IsVar ts mid v
      → IsMoreParams mid rest xs → IsParams ts rest (v ∷ xs)

pub data IsMethod : List Token → List Token → Procedure → Type 0 where
  method : {a b c : Span} {name : List ℕ} {ts us rest : List Token} {ps : List Var}
      {body : Statements} → IsParams ts us ps → IsBlock us rest body
      → IsMethod (tok a (Word word.Method) ∷ tok b (Name name) ∷ tok c (Sign sign.LeftParen) ∷ ts)
      rest (record { name = ident b name; params = ps; body = body })

pub data IsMethods : List Token → List Token → List Procedure → Type 0 where
  no_method : {rest : List Token} → IsMethods rest rest []
  methods : {ts mid rest : List Token} {x : Procedure} {xs : List Procedure} → IsMethod ts mid x
      → IsMethods mid rest xs → IsMethods ts rest (x ∷ xs)

pub data IsFields : List Token → List Token → List Var → Type 0 where
  no_field : {rest : List Token} → IsFields rest rest []
  field : {ts mid rest : List Token} {v : Var} {xs : List Var} → IsVar ts mid v
      → IsFields mid rest xs → IsFields ts rest (v ∷ xs)

-- the class that a class inherits from
pub data IsParent : List Token → List Token → Option Ident → Type 0 where
  alone : {rest : List Token} → IsParent rest rest None
  inherits : {a b : Span} {name : List ℕ} {rest : List Token}
      → IsParent (tok a (Word word.Inherits) ∷ tok b (Name name) ∷ rest) rest (Some (ident b name))

pub data IsClass : List Token → List Token → ClassText → Type 0 where
  class : {a b : Span} {name : List ℕ} {ts us vs rest : List Token} {p : Option Ident}
      {fs : List Var} {ms : List Procedure} → IsParent ts us p → IsFields us vs fs
      → IsMethods vs rest ms → IsClass (tok a (Word word.Class) ∷ tok b (Name name) ∷ ts) rest
      (record { name = ident b name; parent = p; fields = fs; methods = ms })

pub data IsClasses : List Token → List Token → List ClassText → Type 0 where
  no_class : {rest : List Token} → IsClasses rest rest []
  classes : {ts mid rest : List Token} {x : ClassText} {xs : List ClassText} → IsClass ts mid x
      → IsClasses mid rest xs → IsClasses ts rest (x ∷ xs)

-- the tokens are those of a program, and this is its syntax tree
abbrev pub Derives : List Token → Source → Type 0
Derives tokens source = IsClasses tokens [] source.classes
