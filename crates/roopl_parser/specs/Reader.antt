-- The reading of tokens, one at a time: a stack has what may still follow.
use Rattle.std.specs.Prelude.{◌≡◌, ◌≢◌, ℕ, suc, pred, Bool, true, false, List, [], ◌∷◌, ◌++◌}
use Rattle.std.specs.Prelude.{Option, Some, None, Result, Ok, Err, nat_lt, cond}
use Rattle.std.proofs.Common.{zero}
use Rattle.roopl_lexer.specs.rpp_tree.declared.tree.Ident.{Ident}
use Rattle.roopl_lexer.specs.rpp_tree.declared.tree.Var.{Var}
use Rattle.roopl_lexer.specs.rpp_tree.declared.tree.VarType.{VarType}
use Rattle.roopl_lexer.specs.rpp_tree.declared.tree.VarType.TheVariants as kind
use Rattle.roopl_lexer.specs.rpp_tree.declared.tree.BinOp.{BinOp}
use Rattle.roopl_lexer.specs.rpp_tree.declared.tree.UpdateOp.{UpdateOp}
use Rattle.roopl_lexer.specs.rpp_tree.declared.limits.LimitKind.{LimitKind}
use Rattle.roopl_lexer.specs.rpp_tree.declared.limits.LimitKind.TheVariants as limit
use Rattle.roopl_lexer.specs.rpp_tree.declared.limits.TheConstants.{MOST_NODES, MOST_INDEX_DEPTH, MOST_CLASSES}
use Rattle.roopl_lexer.specs.rpp_tree.declared.limits.TheConstants.{MOST_PARAMETERS, MOST_LOCALS, MOST_NESTING}
use Rattle.roopl_lexer.specs.rpp_tree.declared.limits.TheConstants.{MOST_PARENS}
use Rattle.roopl_lexer.specs.rpp_tree.Tree.{Expression, Number, Null, Binary, Lvalue, Whole, Item, Creation}
use Rattle.roopl_lexer.specs.rpp_tree.Tree.{Object, Ints, Objects, Statement, Statements, Update, Swap, If}
use Rattle.roopl_lexer.specs.rpp_tree.Tree.{From, Construct, Local, New, Delete, Copy, Uncopy, Call, Skip, End}
use Rattle.roopl_lexer.specs.rpp_tree.Tree.{Procedure, ClassText}
use Rattle.roopl_lexer.specs.rpp_tree.Views.{statements_of}
use Rattle.roopl_lexer.specs.declared.token.Token.{Token}
use Rattle.roopl_lexer.specs.declared.token.TokenKind.{TokenKind}
use Rattle.roopl_lexer.specs.declared.token.TokenKind.TheVariants as token
use Rattle.roopl_lexer.specs.declared.token.Keyword.{Keyword}
use Rattle.roopl_lexer.specs.declared.token.Keyword.TheVariants as word
use Rattle.roopl_lexer.specs.declared.token.Symbol.{Symbol}
use Rattle.roopl_lexer.specs.declared.token.Symbol.TheVariants as sign
use Rattle.roopl_parser.specs.declared.error.ParseError.{ParseError}
use Rattle.roopl_parser.specs.declared.error.ParseError.TheVariants.{Syntax, Limit, NoMemory}
use Rattle.roopl_parser.specs.Operators.{operator_at, update_operator}
use Rattle.roopl_parser.specs.Grammar.{lvalue_read, array_of}

-- what has been read
pub data ParsedValue : Type 0 where
  AnExpr : Expression → ParsedValue
  AnIdent : Ident → ParsedValue
  Idents : List Ident → ParsedValue
  APlace : Lvalue → ParsedValue
  AType : VarType → ParsedValue
  AVar : Var → ParsedValue
  Vars : List Var → ParsedValue
  ACreation : Creation → ParsedValue
  AStatement : Statement → ParsedValue
  Many : List Statement → ParsedValue
  ABlock : Statements → ParsedValue
  AParent : Option Ident → ParsedValue
  Methods : List Procedure → ParsedValue
  Classes : List ClassText → ParsedValue

-- what is made of the last values
pub data Rule : Type 0 where
  MakeRead : Rule
  MakeWhole : Rule
  MakeElement : Rule
  MakeBinary : (at : ℕ) (op : BinOp) → Rule
  MakeArray : Rule
  MakeVar : Rule
  AddVar : Rule
  NoVars : Rule
  MakeObject : Rule
  MakeInts : Rule
  MakeObjects : Rule
  MakeUpdate : (at : ℕ) (op : UpdateOp) → Rule
  MakeSwap : (at : ℕ) → Rule
  MakeIf : (at : ℕ) → Rule
  MakeFrom : (at : ℕ) → Rule
  MakeConstruct : (at : ℕ) → Rule
  MakeLocal : (at : ℕ) → Rule
  MakeNew : (at : ℕ) → Rule
  MakeDelete : (at : ℕ) → Rule
  MakeCopy : (at : ℕ) → Rule
  MakeUncopy : (at : ℕ) → Rule
  MakeCall : (at : ℕ) (back : Bool) → Rule
  MakeSend : (at : ℕ) (back : Bool) → Rule
  AddName : Rule
  AddStatement : Rule
  MakeBlock : Rule
  NoMethods : Rule
  MakeParent : Rule
  MakeMethod : Rule
  MakeClass : Rule

-- what is still to come: a token, a symbol of the grammar with its counts, or a rule. Counts: p
-- open parentheses, i indexes around it, d statements around it, l locals around it, c that come
-- before it; `Count n` sets the count of nodes.
pub data Part : Type 0 where
  AWord : Keyword → Part
  ASign : Symbol → Part
  AName : Part
  Level : (k p i : ℕ) → Part
  More : (k p i : ℕ) → Part
  Index : (p i : ℕ) → Part
  Spot : Part
  Kind : Part
  Brackets : Part
  Made : Part
  Sized : Part
  Single : (d l : ℕ) → Part
  Block : (d l : ℕ) → Part
  Stmts : (d l : ℕ) → Part
  Assign : (at : ℕ) → Part
  Branches : (first second third : Keyword) (d l : ℕ) → Part
  Scope : (d l : ℕ) → Part
  Receiver : (at : ℕ) (back : Bool) (l : ℕ) → Part
  Args : Part
  MoreArgs : Part
  Params : Part
  Param : (c : ℕ) → Part
  MoreParams : (c : ℕ) → Part
  Count : (n : ℕ) → Part
  Build : Rule → Part
  Parent : Part
  Fields : Part
  Procedures : Part
  Program : (c : ℕ) → Part

-- what a token does to the counts: none passes its limit, or one does, or the nodes do if `[`
-- follows the token
pub data Mark : Type 0 where
  Within : Mark
  Past : (which : LimitKind) → Mark
  Element : Mark

-- one token: it is wrong here, or leads on
pub data Step : Type 0 where
  Wrong : Step
  Next : (mark : Mark) (nodes : ℕ) (stack : List Part) (values : List ParsedValue) → Step

abbrev pub nameless : Ident
nameless = record { at = 0; text = [] }

abbrev pub as_expr : ParsedValue → Expression
as_expr (AnExpr e) = e
as_expr _ = Number 0 0

abbrev pub as_name : ParsedValue → Ident
as_name (AnIdent x) = x
as_name _ = nameless

abbrev pub as_names : ParsedValue → List Ident
as_names (Idents xs) = xs
as_names _ = []

abbrev pub as_place : ParsedValue → Lvalue
as_place (APlace x) = x
as_place _ = Whole nameless

abbrev pub as_type : ParsedValue → VarType
as_type (AType x) = x
as_type _ = kind.Int

abbrev pub as_var : ParsedValue → Var
as_var (AVar x) = x
as_var _ = record { kind = kind.Int; name = nameless }

abbrev pub as_vars : ParsedValue → List Var
as_vars (Vars xs) = xs
as_vars _ = []

abbrev pub as_creation : ParsedValue → Creation
as_creation (ACreation x) = x
as_creation _ = Object nameless

abbrev pub as_statement : ParsedValue → Statement
as_statement (AStatement x) = x
as_statement _ = Skip 0

abbrev pub as_many : ParsedValue → List Statement
as_many (Many xs) = xs
as_many _ = []

abbrev pub as_block : ParsedValue → Statements
as_block (ABlock x) = x
as_block _ = End

abbrev pub as_parent : ParsedValue → Option Ident
as_parent (AParent x) = x
as_parent _ = None

abbrev pub as_methods : ParsedValue → List Procedure
as_methods (Methods xs) = xs
as_methods _ = []

abbrev pub as_classes : ParsedValue → List ClassText
as_classes (Classes xs) = xs
as_classes _ = []

abbrev pub top : List ParsedValue → ParsedValue
top [] = AnExpr (Number 0 0)
top (v ∷ vs) = v

abbrev pub under : List ParsedValue → List ParsedValue
under [] = []
under (v ∷ vs) = vs

abbrev pub second : List ParsedValue → ParsedValue
second vs = top (under vs)

abbrev pub third : List ParsedValue → ParsedValue
third vs = top (under (under vs))

abbrev pub fourth : List ParsedValue → ParsedValue
fourth vs = top (under (under (under vs)))

abbrev pub fifth : List ParsedValue → ParsedValue
fifth vs = top (under (under (under (under vs))))

abbrev pub build : Rule → List ParsedValue → List ParsedValue
build MakeRead vs = AnExpr (lvalue_read (as_place (top vs))) ∷ under vs
build MakeWhole vs = APlace (Whole (as_name (top vs))) ∷ under vs
build MakeElement vs = APlace (Item (as_name (second vs)) (as_expr (top vs))) ∷ under (under vs)
build (MakeBinary at op) vs = AnExpr (Binary at op (as_expr (second vs)) (as_expr (top vs)))
    ∷ under (under vs)
build MakeArray vs = AType (array_of (as_type (top vs))) ∷ under vs
build MakeVar vs = AVar (record { kind = as_type (second vs); name = as_name (top vs) })
    ∷ under (under vs)
build AddVar vs = Vars (as_vars (second vs) ++ as_var (top vs) ∷ []) ∷ under (under vs)
build NoVars vs = Vars [] ∷ vs
build MakeObject vs = ACreation (Object (as_name (top vs))) ∷ under vs
build MakeInts vs = ACreation (Ints (as_expr (top vs))) ∷ under vs
build MakeObjects vs = ACreation (Objects (as_name (second vs)) (as_expr (top vs)))
    ∷ under (under vs)
build (MakeUpdate at op) vs = AStatement (Update at op (as_place (second vs)) (as_expr (top vs)))
    ∷ under (under vs)
build (MakeSwap at) vs = AStatement (Swap at (as_place (second vs)) (as_place (top vs)))
    ∷ under (under vs)
build (MakeIf at) vs =
    AStatement (If at (as_expr (fourth vs)) (as_block (third vs)) (as_block (second vs))
    (as_expr (top vs))) ∷ under (under (under (under vs)))
build (MakeFrom at) vs =
    AStatement (From at (as_expr (fourth vs)) (as_block (third vs)) (as_block (second vs))
    (as_expr (top vs))) ∷ under (under (under (under vs)))
build (MakeConstruct at) vs =
    AStatement (Construct at (as_name (fourth vs)) (as_name (third vs)) (as_block (second vs))
    (as_name (top vs))) ∷ under (under (under (under vs)))
build (MakeLocal at) vs =
    AStatement (Local at (as_var (fifth vs)) (as_expr (fourth vs)) (as_block (third vs))
    (as_var (second vs)) (as_expr (top vs))) ∷ under (under (under (under (under vs))))
build (MakeNew at) vs = AStatement (New at (as_creation (second vs)) (as_place (top vs)))
    ∷ under (under vs)
build (MakeDelete at) vs = AStatement (Delete at (as_creation (second vs)) (as_place (top vs)))
    ∷ under (under vs)
build (MakeCopy at) vs =
    AStatement (Copy at (as_type (third vs)) (as_place (second vs)) (as_place (top vs)))
    ∷ under (under (under vs))
build (MakeUncopy at) vs =
    AStatement (Uncopy at (as_type (third vs)) (as_place (second vs)) (as_place (top vs)))
    ∷ under (under (under vs))
build (MakeCall at back) vs =
    AStatement (Call at back None (as_name (second vs)) (as_names (top vs))) ∷ under (under vs)
build (MakeSend at back) vs =
    AStatement (Call at back (Some (as_place (third vs))) (as_name (second vs)) (as_names (top vs)))
    ∷ under (under (under vs))
build AddName vs = Idents (as_names (second vs) ++ as_name (top vs) ∷ []) ∷ under (under vs)
build AddStatement vs = Many (as_many (second vs) ++ as_statement (top vs) ∷ []) ∷ under (under vs)
build MakeBlock vs = ABlock (statements_of (as_many (top vs))) ∷ under vs
build NoMethods vs = Methods [] ∷ vs
build MakeParent vs = AParent (Some (as_name (top vs))) ∷ under vs
build MakeMethod vs =
    Methods (as_methods (fourth vs)
    ++ record { name = as_name (third vs); params = as_vars (second vs); body = as_block (top vs) }
    ∷ []) ∷ under (under (under (under vs)))
build MakeClass vs =
    Classes (as_classes (fifth vs)
    ++ record {
      name = as_name (fourth vs);
      parent = as_parent (third vs);
      fields = as_vars (second vs);
      methods = as_methods (top vs);
    } ∷ [])
    ∷ under (under (under (under (under vs))))

-- the limits: a count passes its limit if it is already equal to it
abbrev pub mark_at_most : ℕ → ℕ → LimitKind → Mark → Mark
mark_at_most most count which other = cond (nat_lt count most) other (Past which)

abbrev pub node_mark : ℕ → Mark
node_mark n = mark_at_most MOST_NODES n limit.Nodes Within

-- a name is a node too, and in too many indexes it may have none itself
abbrev pub name_mark : (n i : ℕ) → Mark
name_mark n i = mark_at_most MOST_NODES n limit.Nodes (cond (nat_lt i MOST_INDEX_DEPTH) Within Element)

abbrev pub parens_mark : ℕ → Mark
parens_mark p = mark_at_most MOST_PARENS p limit.Parens Within

abbrev pub nesting_mark : ℕ → Mark
nesting_mark d = mark_at_most MOST_NESTING d limit.Nesting Within

abbrev pub locals_mark : ℕ → Mark
locals_mark l = mark_at_most MOST_LOCALS l limit.Locals Within

-- a statement that makes a local is nested and has a local
abbrev pub scope_mark : (d l : ℕ) → Mark
scope_mark d l = mark_at_most MOST_NESTING d limit.Nesting (locals_mark l)

abbrev pub param_mark : ℕ → Mark
param_mark c = mark_at_most MOST_PARAMETERS c limit.Parameters Within

abbrev pub class_mark : ℕ → Mark
class_mark c = mark_at_most MOST_CLASSES c limit.Classes Within

-- the operators of the levels up to k that may follow an operand
abbrev pub mores : ℕ → ℕ → ℕ → List Part → List Part
mores zero p i s = s
mores (suc k) p i s = mores k p i (More (suc k) p i ∷ s)

abbrev pub operand : (k p i : ℕ) → List Part → ℕ → List ParsedValue → ℕ → TokenKind → Step
operand k p i s n vs at (token.Number w) =
    Next (node_mark n) (suc n) (mores k p i s) (AnExpr (Number at w) ∷ vs)
operand k p i s n vs at (token.Word word.Nil) =
    Next (node_mark n) (suc n) (mores k p i s) (AnExpr (Null at) ∷ vs)
operand k p i s n vs at (token.Name x) =
    Next (name_mark n i) (suc n) (Index p i ∷ Build MakeRead ∷ mores k p i s)
    (AnIdent (record { at = at; text = x }) ∷ vs)
operand k p i s n vs at (token.Sign sign.LeftParen) =
    Next (parens_mark p) n (Level 9 (suc p) i ∷ ASign sign.RightParen ∷ mores k p i s) vs
operand k p i s n vs at _ = Wrong

abbrev pub more : (k p i : ℕ) → List Part → ℕ → List ParsedValue → ℕ → Step → Option BinOp → Step
more k p i s n vs at other None = other
more k p i s n vs at other (Some op) =
    Next (node_mark n) (suc n) (Level (pred k) p i ∷ Build (MakeBinary at op) ∷ More k p i ∷ s) vs

-- an index, or nothing: `other` goes on after nothing
abbrev pub index : (p i : ℕ) → List Part → ℕ → List ParsedValue → Step → TokenKind → Step
index p i s n vs other (token.Sign sign.LeftBracket) =
    Next Within n (Level 9 p (suc i) ∷ ASign sign.RightBracket ∷ Build MakeElement ∷ s) vs
index p i s n vs other _ = other

abbrev pub name : List Part → ℕ → List ParsedValue → ℕ → TokenKind → Step
name s n vs at (token.Name x) = Next Within n s (AnIdent (record { at = at; text = x }) ∷ vs)
name s n vs at _ = Wrong

-- whether a type begins with a token
abbrev pub types : TokenKind → Bool
types (token.Name x) = true
types (token.Word word.Int) = true
types _ = false

-- the first token of a type, or other
abbrev pub a_type : List Part → ℕ → List ParsedValue → ℕ → Mark → Step → TokenKind → Step
a_type s n vs at mark other (token.Name x) =
    Next mark n (Brackets ∷ s) (AType (kind.Class (record { at = at; text = x })) ∷ vs)
a_type s n vs at mark other (token.Word word.Int) = Next mark n (Brackets ∷ s) (AType kind.Int ∷ vs)
a_type s n vs at mark other _ = other

abbrev pub brackets : List Part → ℕ → List ParsedValue → Step → TokenKind → Step
brackets s n vs other (token.Sign sign.LeftBracket) =
    Next Within n (ASign sign.RightBracket ∷ Build MakeArray ∷ s) vs
brackets s n vs other _ = other

abbrev pub made_read : List Part → ℕ → List ParsedValue → ℕ → TokenKind → Step
made_read s n vs at (token.Name x) = Next Within n (Sized ∷ s)
    (AnIdent (record { at = at; text = x }) ∷ vs)
made_read s n vs at (token.Word word.Int) =
    Next Within n (ASign sign.LeftBracket ∷ Level 9 0 0 ∷ ASign sign.RightBracket ∷ Build MakeInts
    ∷ s) vs
made_read s n vs at _ = Wrong

abbrev pub sized : List Part → ℕ → List ParsedValue → Step → TokenKind → Step
sized s n vs other (token.Sign sign.LeftBracket) =
    Next Within n (Level 9 0 0 ∷ ASign sign.RightBracket ∷ Build MakeObjects ∷ s) vs
sized s n vs other _ = other

-- whether a statement begins with a token
abbrev pub starts : TokenKind → Bool
starts (token.Name x) = true
starts (token.Word word.If) = true
starts (token.Word word.From) = true
starts (token.Word word.Construct) = true
starts (token.Word word.Local) = true
starts (token.Word word.New) = true
starts (token.Word word.Delete) = true
starts (token.Word word.Copy) = true
starts (token.Word word.Uncopy) = true
starts (token.Word word.Call) = true
starts (token.Word word.Uncall) = true
starts (token.Word word.Skip) = true
starts _ = false

-- a variable with its type
abbrev pub var_parts : List Part → List Part
var_parts s = AName ∷ Build MakeVar ∷ s

-- the first token of a statement with d statements and l locals around it, or other
abbrev pub statement : (d l : ℕ) → List Part → List ParsedValue → ℕ → Step → TokenKind → Step
statement d l s vs at other (token.Name x) =
    Next (nesting_mark d) 0 (Index 0 0 ∷ Assign at ∷ Count 0 ∷ s)
    (AnIdent (record { at = at; text = x }) ∷ vs)
statement d l s vs at other (token.Word word.If) =
    Next (nesting_mark d) 0 (Level 9 0 0 ∷ Branches word.Then word.Else word.Fi d l
    ∷ Build (MakeIf at) ∷ Count 0 ∷ s) vs
statement d l s vs at other (token.Word word.From) =
    Next (nesting_mark d) 0 (Level 9 0 0 ∷ Branches word.Do word.Loop word.Until d l
    ∷ Build (MakeFrom at) ∷ Count 0 ∷ s) vs
statement d l s vs at other (token.Word word.Construct) =
    Next (scope_mark d l) 0 (AName ∷ AName ∷ Block (suc d) (suc l) ∷ AWord word.Destruct ∷ AName
    ∷ Build (MakeConstruct at) ∷ s) vs
statement d l s vs at other (token.Word word.Local) =
    Next (scope_mark d l) 0 (Kind ∷ var_parts
    (ASign sign.Equal ∷ Level 9 0 0 ∷ Scope d l ∷ Build (MakeLocal at) ∷ Count 0 ∷ s)) vs
statement d l s vs at other (token.Word word.New) =
    Next (nesting_mark d) 0 (Made ∷ Spot ∷ Build (MakeNew at) ∷ Count 0 ∷ s) vs
statement d l s vs at other (token.Word word.Delete) =
    Next (nesting_mark d) 0 (Made ∷ Spot ∷ Build (MakeDelete at) ∷ Count 0 ∷ s) vs
statement d l s vs at other (token.Word word.Copy) =
    Next (nesting_mark d) 0 (Kind ∷ Spot ∷ Spot ∷ Build (MakeCopy at) ∷ Count 0 ∷ s) vs
statement d l s vs at other (token.Word word.Uncopy) =
    Next (nesting_mark d) 0 (Kind ∷ Spot ∷ Spot ∷ Build (MakeUncopy at) ∷ Count 0 ∷ s) vs
statement d l s vs at other (token.Word word.Call) =
    Next (nesting_mark d) 0 (AName ∷ Receiver at false l ∷ Count 0 ∷ s) vs
statement d l s vs at other (token.Word word.Uncall) =
    Next (nesting_mark d) 0 (AName ∷ Receiver at true l ∷ Count 0 ∷ s) vs
statement d l s vs at other (token.Word word.Skip) =
    Next (nesting_mark d) 0 s (AStatement (Skip at) ∷ vs)
statement d l s vs at other _ = other

-- what follows the first statement of a block
abbrev pub more_statements : (d l : ℕ) → List Part → List Part
more_statements d l s = Build AddStatement ∷ Stmts d l ∷ s

abbrev pub block_parts : (d l : ℕ) → List Part → List Part
block_parts d l s = more_statements d l (Build MakeBlock ∷ s)

-- the end of a local, with the nodes of its first expression
abbrev pub scope_end : ℕ → List Part → List Part
scope_end n s = AWord word.Delocal ∷ Kind ∷ var_parts (ASign sign.Equal ∷ Count n ∷ Level 9 0 0 ∷ s)

-- what follows the place that a statement begins with
abbrev pub assigned : (at : ℕ) → List Part → ℕ → List ParsedValue → Option UpdateOp → Step → Step
assigned at s n vs (Some op) other = Next Within n (Level 9 0 0 ∷ Build (MakeUpdate at op) ∷ s) vs
assigned at s n vs None other = other

abbrev pub swapped : (at : ℕ) → List Part → ℕ → List ParsedValue → TokenKind → Step
swapped at s n vs (token.Sign sign.Swap) = Next Within n (Spot ∷ Build (MakeSwap at) ∷ s) vs
swapped at s n vs _ = Wrong

-- two blocks and an expression, each after its keyword
abbrev pub branch_parts : (second third : Keyword) (d l n : ℕ) → List Part → List Part
branch_parts second third d l n s =
    Block (suc d) l ∷ AWord second ∷ Block (suc d) l ∷ AWord third ∷ Count n ∷ Level 9 0 0 ∷ s

-- the method and the arguments of a call on a receiver
abbrev pub send_parts : (at : ℕ) (back : Bool) → List Part → List Part
send_parts at back s = AName ∷ ASign sign.LeftParen ∷ Args ∷ Build (MakeSend at back) ∷ s

abbrev pub receiver : (at : ℕ) (back : Bool) (l : ℕ) → List Part → ℕ → List ParsedValue → TokenKind → Step
receiver at back l s n vs (token.Sign sign.LeftParen) =
    Next Within n (Args ∷ Build (MakeCall at back) ∷ s) vs
receiver at back l s n vs (token.Sign sign.DoubleColon) =
    Next Within n (send_parts at back s) (build MakeWhole vs)
receiver at back l s n vs (token.Sign sign.LeftBracket) =
    Next (locals_mark l) n (Level 9 0 1 ∷ ASign sign.RightBracket ∷ Build MakeElement
    ∷ ASign sign.DoubleColon ∷ send_parts at back s) vs
receiver at back l s n vs _ = Wrong

abbrev pub args : List Part → ℕ → List ParsedValue → ℕ → TokenKind → Step
args s n vs at (token.Sign sign.RightParen) = Next Within n s (Idents [] ∷ vs)
args s n vs at (token.Name x) =
    Next Within n (MoreArgs ∷ s) (Idents (record { at = at; text = x } ∷ []) ∷ vs)
args s n vs at _ = Wrong

abbrev pub more_args : List Part → ℕ → List ParsedValue → TokenKind → Step
more_args s n vs (token.Sign sign.RightParen) = Next Within n s vs
more_args s n vs (token.Sign sign.Comma) = Next Within n (AName ∷ Build AddName ∷ MoreArgs ∷ s) vs
more_args s n vs _ = Wrong

-- a variable that is added to those before it
abbrev pub field_parts : List Part → List Part
field_parts s = var_parts (Build AddVar ∷ s)

abbrev pub params : List Part → ℕ → List ParsedValue → Step → TokenKind → Step
params s n vs other (token.Sign sign.RightParen) = Next Within n s (Vars [] ∷ vs)
params s n vs other _ = other

abbrev pub more_params : (c : ℕ) → List Part → ℕ → List ParsedValue → TokenKind → Step
more_params c s n vs (token.Sign sign.RightParen) = Next Within n s vs
more_params c s n vs (token.Sign sign.Comma) = Next Within n (Param c ∷ MoreParams (suc c) ∷ s) vs
more_params c s n vs _ = Wrong

abbrev pub parent : List Part → ℕ → List ParsedValue → Step → TokenKind → Step
parent s n vs other (token.Word word.Inherits) = Next Within n (AName ∷ Build MakeParent ∷ s) vs
parent s n vs other _ = other

abbrev pub method_parts : List Part → List Part
method_parts s = AName ∷ ASign sign.LeftParen ∷ Params ∷ Block 0 0 ∷ Build MakeMethod ∷ s

abbrev pub procedures : List Part → ℕ → List ParsedValue → Step → TokenKind → Step
procedures s n vs other (token.Word word.Method) = Next Within n (method_parts (Procedures ∷ s)) vs
procedures s n vs other _ = other

abbrev pub class_parts : List Part → List Part
class_parts s = AName ∷ Parent ∷ Build NoVars ∷ Fields ∷ Build NoMethods ∷ Procedures
    ∷ Build MakeClass ∷ s

abbrev pub program : (c : ℕ) → List Part → ℕ → List ParsedValue → Step → TokenKind → Step
program c s n vs other (token.Word word.Class) =
    Next (class_mark c) n (class_parts (Program (suc c) ∷ s)) vs
program c s n vs other _ = other

-- whether a token is this keyword
abbrev pub is_word : Keyword → TokenKind → Bool
is_word word.Class (token.Word word.Class) = true
is_word word.Inherits (token.Word word.Inherits) = true
is_word word.Method (token.Word word.Method) = true
is_word word.Int (token.Word word.Int) = true
is_word word.Nil (token.Word word.Nil) = true
is_word word.Skip (token.Word word.Skip) = true
is_word word.If (token.Word word.If) = true
is_word word.Then (token.Word word.Then) = true
is_word word.Else (token.Word word.Else) = true
is_word word.Fi (token.Word word.Fi) = true
is_word word.From (token.Word word.From) = true
is_word word.Do (token.Word word.Do) = true
is_word word.Loop (token.Word word.Loop) = true
is_word word.Until (token.Word word.Until) = true
is_word word.Local (token.Word word.Local) = true
is_word word.Delocal (token.Word word.Delocal) = true
is_word word.Construct (token.Word word.Construct) = true
is_word word.Destruct (token.Word word.Destruct) = true
is_word word.New (token.Word word.New) = true
is_word word.Delete (token.Word word.Delete) = true
is_word word.Copy (token.Word word.Copy) = true
is_word word.Uncopy (token.Word word.Uncopy) = true
is_word word.Call (token.Word word.Call) = true
is_word word.Uncall (token.Word word.Uncall) = true
is_word _ _ = false

abbrev pub is_sign : Symbol → TokenKind → Bool
is_sign sign.AddTo (token.Sign sign.AddTo) = true
is_sign sign.SubFrom (token.Sign sign.SubFrom) = true
is_sign sign.XorInto (token.Sign sign.XorInto) = true
is_sign sign.Swap (token.Sign sign.Swap) = true
is_sign sign.Plus (token.Sign sign.Plus) = true
is_sign sign.Minus (token.Sign sign.Minus) = true
is_sign sign.Caret (token.Sign sign.Caret) = true
is_sign sign.Amp (token.Sign sign.Amp) = true
is_sign sign.Bar (token.Sign sign.Bar) = true
is_sign sign.AmpAmp (token.Sign sign.AmpAmp) = true
is_sign sign.BarBar (token.Sign sign.BarBar) = true
is_sign sign.Less (token.Sign sign.Less) = true
is_sign sign.Greater (token.Sign sign.Greater) = true
is_sign sign.AtMost (token.Sign sign.AtMost) = true
is_sign sign.AtLeast (token.Sign sign.AtLeast) = true
is_sign sign.Equal (token.Sign sign.Equal) = true
is_sign sign.NotEqual (token.Sign sign.NotEqual) = true
is_sign sign.Star (token.Sign sign.Star) = true
is_sign sign.Slash (token.Sign sign.Slash) = true
is_sign sign.Percent (token.Sign sign.Percent) = true
is_sign sign.LeftParen (token.Sign sign.LeftParen) = true
is_sign sign.RightParen (token.Sign sign.RightParen) = true
is_sign sign.LeftBracket (token.Sign sign.LeftBracket) = true
is_sign sign.RightBracket (token.Sign sign.RightBracket) = true
is_sign sign.Comma (token.Sign sign.Comma) = true
is_sign sign.DoubleColon (token.Sign sign.DoubleColon) = true
is_sign _ _ = false

-- what is here
abbrev pub here : (TokenKind → Bool) → List Token → Bool
here is [] = false
here is (t ∷ ts) = is t.kind

-- the step that a token makes
unfoldable pub walk : List Part → ℕ → List ParsedValue → Token → Step
walk [] n vs t = Wrong
walk (AWord w ∷ s) n vs t = cond (is_word w t.kind) (Next Within n s vs) Wrong
walk (ASign w ∷ s) n vs t = cond (is_sign w t.kind) (Next Within n s vs) Wrong
walk (AName ∷ s) n vs t = name s n vs t.at t.kind
walk (Level k p i ∷ s) n vs t = operand k p i s n vs t.at t.kind
walk (More k p i ∷ s) n vs t = more k p i s n vs t.at (walk s n vs t) (operator_at k t.kind)
walk (Index p i ∷ s) n vs t = index p i s n vs (walk s n (build MakeWhole vs) t) t.kind
walk (Spot ∷ s) n vs t = name (Index 0 0 ∷ s) n vs t.at t.kind
walk (Kind ∷ s) n vs t = a_type s n vs t.at Within Wrong t.kind
walk (Brackets ∷ s) n vs t = brackets s n vs (walk s n vs t) t.kind
walk (Made ∷ s) n vs t = made_read s n vs t.at t.kind
walk (Sized ∷ s) n vs t = sized s n vs (walk s n (build MakeObject vs) t) t.kind
walk (Single d l ∷ s) n vs t = statement d l s vs t.at Wrong t.kind
walk (Block d l ∷ s) n vs t = statement d l (block_parts d l s) (Many [] ∷ vs) t.at Wrong t.kind
walk (Stmts d l ∷ s) n vs t = statement d l (more_statements d l s) vs t.at (walk s n vs t) t.kind
walk (Assign at ∷ s) n vs t = assigned at s n vs (update_operator t.kind) (swapped at s n vs t.kind)
walk (Branches first second third d l ∷ s) n vs t =
    cond (is_word first t.kind) (Next Within n (branch_parts second third d l n s) vs) Wrong
walk (Scope d l ∷ s) n vs t =
    statement (suc d) (suc l) (block_parts (suc d) (suc l) (scope_end n s)) (Many [] ∷ vs) t.at
    Wrong t.kind
walk (Receiver at back l ∷ s) n vs t = receiver at back l s n vs t.kind
walk (Args ∷ s) n vs t = args s n vs t.at t.kind
walk (MoreArgs ∷ s) n vs t = more_args s n vs t.kind
walk (Params ∷ s) n vs t =
    params s n vs (a_type (field_parts (MoreParams 1 ∷ s)) n (Vars [] ∷ vs) t.at (param_mark 0)
    Wrong t.kind) t.kind
walk (Param c ∷ s) n vs t = a_type (field_parts s) n vs t.at (param_mark c) Wrong t.kind
walk (MoreParams c ∷ s) n vs t = more_params c s n vs t.kind
walk (Count m ∷ s) n vs t = walk s m vs t
walk (Build r ∷ s) n vs t = walk s n (build r vs) t
walk (Parent ∷ s) n vs t = parent s n vs (walk s n (AParent None ∷ vs) t) t.kind
walk (Fields ∷ s) n vs t = a_type (field_parts (Fields ∷ s)) n vs t.at Within (walk s n vs t) t.kind
walk (Procedures ∷ s) n vs t = procedures s n vs (walk s n vs t) t.kind
walk (Program c ∷ s) n vs t = program c s n vs (walk s n vs t) t.kind

-- what the end of the tokens makes
unfoldable pub ends : ℕ → List Part → List ParsedValue → Result ParsedValue ParseError
ends end [] vs = Ok (top vs)
ends end (More k p i ∷ s) vs = ends end s vs
ends end (Index p i ∷ s) vs = ends end s (build MakeWhole vs)
ends end (Brackets ∷ s) vs = ends end s vs
ends end (Sized ∷ s) vs = ends end s (build MakeObject vs)
ends end (Stmts d l ∷ s) vs = ends end s vs
ends end (Count m ∷ s) vs = ends end s vs
ends end (Build r ∷ s) vs = ends end s (build r vs)
ends end (Parent ∷ s) vs = ends end s (AParent None ∷ vs)
ends end (Fields ∷ s) vs = ends end s vs
ends end (Procedures ∷ s) vs = ends end s vs
ends end (Program c ∷ s) vs = ends end s vs
ends end (_ ∷ s) vs = Err (Syntax end)

-- the limit that a token passes, if a `[` follows it or not
abbrev pub passed : Mark → Bool → Option LimitKind
passed Within bracket = None
passed (Past which) bracket = Some which
passed Element bracket = cond bracket (Some limit.Nodes) None

abbrev pub stopped : ℕ → Option LimitKind → Result ParsedValue ParseError → Result ParsedValue ParseError
stopped at None next = next
stopped at (Some which) next = Err (Limit which at)

-- what a step leads to: with the limits, or without
abbrev pub led : Bool → ℕ → Bool → (ℕ → List Part → List ParsedValue → Result ParsedValue ParseError) → Step
    → Result ParsedValue ParseError
led strict at bracket next Wrong = Err (Syntax at)
led strict at bracket next (Next mark n s vs) =
    cond strict (stopped at (passed mark bracket) (next n s vs)) (next n s vs)

-- what reading gives: the value, or the first token that is wrong or, if the limits count,
-- passes one
unfoldable pub scan : Bool → ℕ → List Token → ℕ → List Part → List ParsedValue → Result ParsedValue ParseError
scan strict end [] = λ n s vs. ends end s vs
scan strict end (t ∷ ts) = λ n s vs. led strict t.at (here (is_sign sign.LeftBracket) ts)
    (scan strict end ts) (walk s n vs t)

-- a function that returned this has read what was at the top of the stack
abbrev pub ReaderGives : {X : Type 0} → Result X ParseError
    → (List Part → List ParsedValue → Result ParsedValue ParseError)
    → (X → List Part → List ParsedValue → Result ParsedValue ParseError) → Type 0
ReaderGives (Ok x) before after = (s : List Part) (vs : List ParsedValue) → before s vs ≡ after x s vs
ReaderGives (Err e) before after = e ≢ NoMemory → (s : List Part) (vs : List ParsedValue) → before s vs ≡ Err e
