-- What the grammar derives is read; and if the syntax tree keeps the limits, no token passes one.
use Rattle.std.specs.Prelude.{◌≡◌, ℕ, suc, ◌+◌, ◌<◌, ◌≤◌, max, Bool, true, false, IsTrue, List, [], ◌∷◌, ◌++◌, length}
use Rattle.std.specs.Prelude.{Option, Some, None, Result, All, cond, nat_eq, nat_lt, refl}
use Rattle.std.proofs.lemmas.Bool.Decides.{nat_tests}
use Rattle.std.proofs.lemmas.List.Elements.{All-head, All-tail}
use Rattle.std.proofs.Common.{zero, sym, ap, ◌∙◌, append_assoc, append-nil, arith, lt-ltb, add-one, add-zero}
use Rattle.roopl_lexer.specs.rpp_tree.declared.limits.TheConstants.{MOST_NODES, MOST_INDEX_DEPTH, MOST_CLASSES, MOST_PARAMETERS}
use Rattle.roopl_lexer.specs.rpp_tree.declared.limits.TheConstants.{MOST_LOCALS, MOST_NESTING, MOST_PARENS}
use Rattle.roopl_lexer.specs.rpp_tree.Tree.{nodes, index_nodes, creation_nodes, statement_depth, depth, Then}
use Rattle.roopl_lexer.specs.rpp_tree.Limits.{index_depth, lvalue_index_depth, creation_index_depth, statement_locals, locals}
use Rattle.roopl_lexer.specs.rpp_tree.Limits.{IsSmallStatement, IsSmallMethod}
use Rattle.roopl_lexer.specs.rpp_tree.declared.tree.Ident.{Ident}
use Rattle.roopl_lexer.specs.rpp_tree.declared.tree.Var.{Var}
use Rattle.roopl_lexer.specs.rpp_tree.declared.tree.VarType.{VarType}
use Rattle.roopl_lexer.specs.rpp_tree.declared.tree.VarType.TheVariants as kind
use Rattle.roopl_lexer.specs.rpp_tree.declared.tree.BinOp.{BinOp}
use Rattle.roopl_lexer.specs.rpp_tree.declared.tree.UpdateOp.{UpdateOp}
use Rattle.roopl_lexer.specs.rpp_tree.Tree.{Expression, Number, Null, Binary, Lvalue, Whole, Item, Creation, Statement, Statements}
use Rattle.roopl_lexer.specs.rpp_tree.Tree.{Update, Swap, If, From, Construct, Local, New, Delete, Copy, Uncopy, Call, Skip}
use Rattle.roopl_lexer.specs.rpp_tree.Tree.{Procedure, ClassText}
use Rattle.roopl_lexer.specs.rpp_tree.Views.{statements_of}
use Rattle.roopl_lexer.specs.declared.token.Token.{Token}
use Rattle.roopl_lexer.specs.declared.token.TokenKind.{TokenKind}
use Rattle.roopl_lexer.specs.declared.token.TokenKind.TheVariants.{Word, Name, Sign}
use Rattle.roopl_lexer.specs.declared.token.TokenKind.TheVariants as token
use Rattle.roopl_lexer.specs.declared.token.Keyword.{Keyword}
use Rattle.roopl_lexer.specs.declared.token.Keyword.TheVariants as word
use Rattle.roopl_lexer.specs.declared.token.Symbol.{Symbol}
use Rattle.roopl_lexer.specs.declared.token.Symbol.TheVariants as sign
use Rattle.roopl_parser.specs.declared.error.ParseError.{ParseError}
use Rattle.roopl_parser.specs.Operators.{Span, tok, ident, binary_operator, at_level, operator_at}
use Rattle.roopl_parser.specs.Operators.{update_operator}
use Rattle.roopl_parser.specs.Grammar.{lvalue_read, IsExpr, number, null, read, parens, weaker, binary, IsIndexed, whole}
use Rattle.roopl_parser.specs.Grammar.{item, IsPlace, place, IsBracketed, plain, array, IsType, ints, objects, IsVar}
use Rattle.roopl_parser.specs.Grammar.{var, IsSized, one, sized as many, IsMade, words, named, IsMoreNames, close}
use Rattle.roopl_parser.specs.Grammar.{comma, IsNames, none, some, IsTarget, own, on, IsAssigned, update, swap}
use Rattle.roopl_parser.specs.Grammar.{IsStatement, assign, conditional, repeat, construct, declare, make, delete, copy}
use Rattle.roopl_parser.specs.Grammar.{uncopy, call, uncall, skip, IsBranches, branches, IsScope, scope, IsBlock, block}
use Rattle.roopl_parser.specs.Grammar.{IsStatements, end as finish, then, IsMoreParams, last_param, next_param}
use Rattle.roopl_parser.specs.Grammar.{IsParams, no_param, params as some_params, IsMethod, method, IsMethods}
use Rattle.roopl_parser.specs.Grammar.{no_method, methods, IsFields, no_field, field, IsParent, alone, inherits}
use Rattle.roopl_parser.specs.Grammar.{IsClass, class, IsClasses, no_class, classes}
use Rattle.roopl_parser.specs.Reader.{ParsedValue, Part, Mark, Within, AnExpr, AnIdent, Idents, APlace, AType, AVar, Vars}
use Rattle.roopl_parser.specs.Reader.{ACreation, AStatement, Many, ABlock, AParent, Methods, Classes, AWord, ASign}
use Rattle.roopl_parser.specs.Reader.{AName, Level, More, Index, Spot, Kind, Brackets, Made, Sized, Single, Block}
use Rattle.roopl_parser.specs.Reader.{Stmts, Assign, Branches, Scope, Receiver, Args, MoreArgs, Params, Param}
use Rattle.roopl_parser.specs.Reader.{MoreParams, Count, Build, Parent, Fields, Procedures, Program, MakeRead}
use Rattle.roopl_parser.specs.Reader.{MakeElement, MakeBinary, MakeArray, MakeVar, AddVar, NoVars, MakeInts}
use Rattle.roopl_parser.specs.Reader.{MakeObjects, MakeUpdate, MakeSwap, MakeIf, MakeFrom, MakeConstruct, MakeLocal}
use Rattle.roopl_parser.specs.Reader.{MakeNew, MakeDelete, MakeCopy, MakeUncopy, MakeCall, MakeSend, AddName}
use Rattle.roopl_parser.specs.Reader.{AddStatement, MakeBlock, NoMethods, MakeParent, MakeMethod, MakeClass}
use Rattle.roopl_parser.specs.Fits.{Fits, BlockFits}
use Rattle.roopl_parser.specs.Parens.{parens_of, index_parens, place_parens, sized_parens, made_parens, target_parens}
use Rattle.roopl_parser.specs.Parens.{assigned_parens, statement_parens, branch_parens, scope_parens, block_parens}
use Rattle.roopl_parser.specs.Parens.{list_parens, method_parens, methods_parens, class_parens, classes_parens}
use Rattle.roopl_parser.specs.Reader.{Element, node_mark, name_mark, parens_mark, nesting_mark, locals_mark, scope_mark}
use Rattle.roopl_parser.specs.Reader.{param_mark, class_mark, passed, stopped, led, scan, walk, ends, starts, types}
use Rattle.roopl_parser.specs.Reader.{is_word, is_sign, here, var_parts, field_parts, send_parts, branch_parts}
use Rattle.roopl_parser.specs.Reader.{scope_end, class_parts, method_parts, more}
use Rattle.roopl_parser.proofs.Moves.{run_build, run_count, run_level_suc, run_spot, run_index_end, run_brackets_end}
use Rattle.roopl_parser.proofs.Moves.{run_sized_end, run_block, run_stmts, run_stmts_end, run_branches, run_scope}
use Rattle.roopl_parser.proofs.Moves.{run_fields, run_fields_end, run_parent, run_parent_end, run_procedures}
use Rattle.roopl_parser.proofs.Moves.{run_procedures_end, run_program_end}

-- ---- limits that are kept

pub stops : (strict : Bool) (at : ℕ) (bracket : Bool) (mark : Mark) (next : Result ParsedValue ParseError)
    → (IsTrue strict → passed mark bracket ≡ None) → cond strict (stopped at (passed mark bracket) next) next ≡ next
stops true at bracket mark next h = let e : passed mark bracket ≡ None = h refl in rw e refl
stops false at bracket mark next h = refl

node_room : (n : ℕ) (b : Bool) → n < MOST_NODES → passed (node_mark n) b ≡ None
node_room n b h = rw (lt-ltb n MOST_NODES h) refl

no_bracket : (b : Bool) → passed (cond b Within Element) false ≡ None
no_bracket true = refl
no_bracket false = refl

-- only a name, and the name of an element
name_room : (n i : ℕ) → n < MOST_NODES → passed (name_mark n i) false ≡ None
name_room n i h = rw (lt-ltb n MOST_NODES h) (no_bracket (nat_lt i MOST_INDEX_DEPTH))

item_room : (n i : ℕ) (b : Bool) → n < MOST_NODES → i < MOST_INDEX_DEPTH → passed (name_mark n i) b ≡ None
item_room n i b h g = rw (lt-ltb n MOST_NODES h, lt-ltb i MOST_INDEX_DEPTH g) refl

parens_room : (n : ℕ) (b : Bool) → n < MOST_PARENS → passed (parens_mark n) b ≡ None
parens_room n b h = rw (lt-ltb n MOST_PARENS h) refl

nesting_room : (n : ℕ) (b : Bool) → n < MOST_NESTING → passed (nesting_mark n) b ≡ None
nesting_room n b h = rw (lt-ltb n MOST_NESTING h) refl

locals_room : (n : ℕ) (b : Bool) → n < MOST_LOCALS → passed (locals_mark n) b ≡ None
locals_room n b h = rw (lt-ltb n MOST_LOCALS h) refl

scope_room : (d l : ℕ) (b : Bool) → d < MOST_NESTING → l < MOST_LOCALS → passed (scope_mark d l) b ≡ None
scope_room d l b h g = rw (lt-ltb d MOST_NESTING h, lt-ltb l MOST_LOCALS g) refl

param_room : (c : ℕ) (b : Bool) → c < MOST_PARAMETERS → passed (param_mark c) b ≡ None
param_room c b h = rw (lt-ltb c MOST_PARAMETERS h) refl

class_room : (c : ℕ) (b : Bool) → c < MOST_CLASSES → passed (class_mark c) b ≡ None
class_room c b h = rw (lt-ltb c MOST_CLASSES h) refl

-- ---- what follows

abbrev pub operator_here : ℕ → List Token → Option BinOp
operator_here k [] = None
operator_here k (t ∷ ts) = operator_at k t.kind

-- no index and no operator of a level below k is here
abbrev pub Below : ℕ → List Token → Type 0
Below k ts = (here (is_sign sign.LeftBracket) ts ≡ false) × ((j : ℕ) → j < k → operator_here j ts ≡ None)

pub below_less : (j k : ℕ) (ts : List Token) → j < suc k → Below k ts → Below j ts
below_less j k ts h b = (b.0, λ i l. b.1 i (omega arith))

level_differs : (k j m : ℕ) (o op : BinOp) → cond (nat_eq k m) (Some o) None ≡ Some op → j < k
    → cond (nat_eq j m) (Some o) None ≡ None
level_differs k j m o op h l = grind (arith, nat_tests)

level_below : (k j : ℕ) (o : Option (ℕ × BinOp)) (op : BinOp) → at_level k o ≡ Some op → j < k → at_level j o ≡ None
level_below k j None op h l = refl
level_below k j (Some (binds, o)) op h l = level_differs k j binds o op h l

operator_no_bracket : (k : ℕ) (kind : TokenKind) (op : BinOp) → operator_at k kind ≡ Some op
    → is_sign sign.LeftBracket kind ≡ false
operator_no_bracket k (token.Sign sign.LeftBracket) op h = cc
operator_no_bracket k _ op h = refl

-- the levels of operators differ
pub operator_below : (k : ℕ) (a : Span) (kind : TokenKind) (op : BinOp) (ts : List Token) → operator_at k kind ≡ Some op
    → Below k (tok a kind ∷ ts)
operator_below k a kind op ts h = (
  operator_no_bracket k kind op h,
  λ j l. level_below k j (binary_operator kind) op h l,
)

pub update_no_bracket : (kind : TokenKind) (op : UpdateOp) → update_operator kind ≡ Some op
    → is_sign sign.LeftBracket kind ≡ false
update_no_bracket (token.Sign sign.LeftBracket) op h = cc
update_no_bracket _ op h = refl

pub word_is : (w : Keyword) → is_word w (Word w) ≡ true
word_is word.Class = refl
word_is word.Inherits = refl
word_is word.Method = refl
word_is word.Int = refl
word_is word.Nil = refl
word_is word.Skip = refl
word_is word.If = refl
word_is word.Then = refl
word_is word.Else = refl
word_is word.Fi = refl
word_is word.From = refl
word_is word.Do = refl
word_is word.Loop = refl
word_is word.Until = refl
word_is word.Local = refl
word_is word.Delocal = refl
word_is word.Construct = refl
word_is word.Destruct = refl
word_is word.New = refl
word_is word.Delete = refl
word_is word.Copy = refl
word_is word.Uncopy = refl
word_is word.Call = refl
word_is word.Uncall = refl

pub sign_is : (w : Symbol) → is_sign w (Sign w) ≡ true
sign_is sign.AddTo = refl
sign_is sign.SubFrom = refl
sign_is sign.XorInto = refl
sign_is sign.Swap = refl
sign_is sign.Plus = refl
sign_is sign.Minus = refl
sign_is sign.Caret = refl
sign_is sign.Amp = refl
sign_is sign.Bar = refl
sign_is sign.AmpAmp = refl
sign_is sign.BarBar = refl
sign_is sign.Less = refl
sign_is sign.Greater = refl
sign_is sign.AtMost = refl
sign_is sign.AtLeast = refl
sign_is sign.Equal = refl
sign_is sign.NotEqual = refl
sign_is sign.Star = refl
sign_is sign.Slash = refl
sign_is sign.Percent = refl
sign_is sign.LeftParen = refl
sign_is sign.RightParen = refl
sign_is sign.LeftBracket = refl
sign_is sign.RightBracket = refl
sign_is sign.Comma = refl
sign_is sign.DoubleColon = refl

-- the operators that may follow an expression of level k
abbrev pub tail_at : ℕ → ℕ → ℕ → List Part → List Part
tail_at zero p i s = s
tail_at (suc k) p i s = More (suc k) p i ∷ s

-- ---- what keeps the limits inside a statement that keeps them

statement_depth_some : (x : Statement) → 0 < statement_depth x
statement_depth_some (Update at op target value) = omega arith
statement_depth_some _ = omega arith

pub nested_once : {d l : ℕ} {x : Statement} → Fits d l x → d < MOST_NESTING
nested_once {d} {l} {x} f = let m : 0 < statement_depth x = statement_depth_some x in
    let k : d + statement_depth x ≤ MOST_NESTING = f.nested in omega (arith, m, k)

if_taken : {d l at : ℕ} {a b : Expression} {x y : Statements} → Fits d l (If at a x y b) → BlockFits (suc d) l x
if_taken {d} {l} {x} {y} f =
    let k : d + (1 + max (depth x) (depth y)) ≤ MOST_NESTING = f.nested in
    let m : l + max (locals x) (locals y) ≤ MOST_LOCALS = f.held in
    record { nested = omega (arith, k); held = omega (arith, m); small = f.inner.0 }

if_other : {d l at : ℕ} {a b : Expression} {x y : Statements} → Fits d l (If at a x y b) → BlockFits (suc d) l y
if_other {d} {l} {x} {y} f =
    let k : d + (1 + max (depth x) (depth y)) ≤ MOST_NESTING = f.nested in
    let m : l + max (locals x) (locals y) ≤ MOST_LOCALS = f.held in
    record { nested = omega (arith, k); held = omega (arith, m); small = f.inner.1 }

from_first : {d l at : ℕ} {a b : Expression} {x y : Statements} → Fits d l (From at a x y b) → BlockFits (suc d) l x
from_first {d} {l} {x} {y} f =
    let k : d + (1 + max (depth x) (depth y)) ≤ MOST_NESTING = f.nested in
    let m : l + max (locals x) (locals y) ≤ MOST_LOCALS = f.held in
    record { nested = omega (arith, k); held = omega (arith, m); small = f.inner.0 }

from_again : {d l at : ℕ} {a b : Expression} {x y : Statements} → Fits d l (From at a x y b) → BlockFits (suc d) l y
from_again {d} {l} {x} {y} f =
    let k : d + (1 + max (depth x) (depth y)) ≤ MOST_NESTING = f.nested in
    let m : l + max (locals x) (locals y) ≤ MOST_LOCALS = f.held in
    record { nested = omega (arith, k); held = omega (arith, m); small = f.inner.1 }

construct_body : {d l at : ℕ} {a b c : Ident} {x : Statements} → Fits d l (Construct at a b x c)
    → BlockFits (suc d) (suc l) x
construct_body {d} {l} {x} f =
    let k : d + (1 + depth x) ≤ MOST_NESTING = f.nested in
    let m : l + (1 + locals x) ≤ MOST_LOCALS = f.held in
    record { nested = omega (arith, k); held = omega (arith, m); small = f.inner }

held_construct : {d l at : ℕ} {a b c : Ident} {x : Statements} → Fits d l (Construct at a b x c) → l < MOST_LOCALS
held_construct {d} {l} {x} f = let m : l + (1 + locals x) ≤ MOST_LOCALS = f.held in omega (arith, m)

local_body : {d l at : ℕ} {v w : Var} {a b : Expression} {x : Statements} → Fits d l (Local at v a x w b)
    → BlockFits (suc d) (suc l) x
local_body {d} {l} {x} f =
    let k : d + (1 + depth x) ≤ MOST_NESTING = f.nested in
    let m : l + (1 + locals x) ≤ MOST_LOCALS = f.held in
    record { nested = omega (arith, k); held = omega (arith, m); small = f.inner }

held_local : {d l at : ℕ} {v w : Var} {a b : Expression} {x : Statements} → Fits d l (Local at v a x w b)
    → l < MOST_LOCALS
held_local {d} {l} {x} f = let m : l + (1 + locals x) ≤ MOST_LOCALS = f.held in omega (arith, m)

fits_first : {d l : ℕ} {x : Statement} {xs : Statements} → BlockFits d l (Then x xs) → Fits d l x
fits_first {d} {l} {x} {xs} f =
    let k : d + max (statement_depth x) (depth xs) ≤ MOST_NESTING = f.nested in
    let m : l + max (statement_locals x) (locals xs) ≤ MOST_LOCALS = f.held in
    record { nested = omega (arith, k); held = omega (arith, m); small = f.small.0; inner = f.small.1 }

fits_rest : {d l : ℕ} {x : Statement} {xs : Statements} → BlockFits d l (Then x xs) → BlockFits d l xs
fits_rest {d} {l} {x} {xs} f =
    let k : d + max (statement_depth x) (depth xs) ≤ MOST_NESTING = f.nested in
    let m : l + max (statement_locals x) (locals xs) ≤ MOST_LOCALS = f.held in
    record { nested = omega (arith, k); held = omega (arith, m); small = f.small.2 }

method_body : {x : Procedure} → IsSmallMethod x → BlockFits 0 0 x.body
method_body {x} f =
    let k : depth x.body ≤ MOST_NESTING = f.nesting in
    let m : locals x.body ≤ MOST_LOCALS = f.locals_nested in
    record { nested = omega (arith, k); held = omega (arith, m); small = f.statements }

pub method_begins : {ts rest : List Token} {x : Procedure} → IsMethod ts rest x → here (is_word word.Method) ts ≡ true
method_begins (method p b) = refl

module _ (strict : Bool) (end : ℕ) where
  -- ---- single tokens

  pub read_word : (a : Span) (w : Keyword) (ts : List Token) (n : ℕ) (s : List Part) (vs : List ParsedValue)
      → scan strict end (tok a (Word w) ∷ ts) n (AWord w ∷ s) vs ≡ scan strict end ts n s vs
  unfolding scan walk
  read_word a w ts n s vs = rw (word_is w) (stops strict a.at (here (is_sign sign.LeftBracket) ts) Within
      (scan strict end ts n s vs) (λ t. refl))

  pub read_sign : (a : Span) (w : Symbol) (ts : List Token) (n : ℕ) (s : List Part) (vs : List ParsedValue)
      → scan strict end (tok a (Sign w) ∷ ts) n (ASign w ∷ s) vs ≡ scan strict end ts n s vs
  unfolding scan walk
  read_sign a w ts n s vs = rw (sign_is w) (stops strict a.at (here (is_sign sign.LeftBracket) ts) Within
      (scan strict end ts n s vs) (λ t. refl))

  pub read_name : (a : Span) (x : List ℕ) (ts : List Token) (n : ℕ) (s : List Part) (vs : List ParsedValue)
      → scan strict end (tok a (Name x) ∷ ts) n (AName ∷ s) vs ≡ scan strict end ts n s (AnIdent (ident a x) ∷ vs)
  unfolding scan walk
  read_name a x ts n s vs = stops strict a.at (here (is_sign sign.LeftBracket) ts) Within
      (scan strict end ts n s (AnIdent (ident a x) ∷ vs)) (λ t. refl)

  skip_more : (ts : List Token) (n k p i : ℕ) (s : List Part) (vs : List ParsedValue) → Below (suc k) ts
      → scan strict end ts n (More k p i ∷ s) vs ≡ scan strict end ts n s vs
  unfolding scan walk ends
  skip_more [] n k p i s vs b = refl
  skip_more (t ∷ ts) n k p i s vs b = ap (λ o. led strict t.at (here (is_sign sign.LeftBracket) ts) (scan strict end ts)
      (more k p i s n vs t.at (walk s n vs t) o)) (b.1 k (omega arith))

  skip_tail : (ts : List Token) (n k p i : ℕ) (s : List Part) (vs : List ParsedValue) → Below (suc k) ts
      → scan strict end ts n (tail_at k p i s) vs ≡ scan strict end ts n s vs
  skip_tail ts n zero p i s vs b = refl
  skip_tail ts n (suc k) p i s vs b = skip_more ts n (suc k) p i s vs b

  -- ---- expressions

  mutual
    unfolding scan walk ends

    pub expr_reads : {k : ℕ} {ts rest : List Token} {e : Expression} (d : IsExpr k ts rest e) (p i n : ℕ)
        → (IsTrue strict → p + parens_of d ≤ MOST_PARENS) → (IsTrue strict → n + nodes e ≤ MOST_NODES)
        → (IsTrue strict → i + index_depth e ≤ MOST_INDEX_DEPTH) → Below k rest → (s : List Part) (vs : List ParsedValue)
        → scan strict end ts n (Level k p i ∷ s) vs ≡ scan strict end rest (n + nodes e) (tail_at k p i s)
        (AnExpr e ∷ vs)
    expr_reads (number {a} {w} {rest}) p i n f g h b s vs =
        rw add-one (stops strict a.at (here (is_sign sign.LeftBracket) rest) (node_mark n)
        (scan strict end rest (suc n) s (AnExpr (Number a.at w) ∷ vs)) (λ t. node_room n _ (omega (arith, g t))))
    expr_reads (null {a} {rest}) p i n f g h b s vs = rw add-one
        (stops strict a.at (here (is_sign sign.LeftBracket) rest) (node_mark n)
        (scan strict end rest (suc n) s (AnExpr (Null a.at) ∷ vs)) (λ t. node_room n _ (omega (arith, g t))))
    expr_reads (read {a} {name} (whole {rest})) p i n f g h b s vs =
        rw add-one (stops strict a.at (here (is_sign sign.LeftBracket) rest) (name_mark n i)
        (scan strict end rest (suc n) (Index p i ∷ Build MakeRead ∷ s) (AnIdent (ident a name) ∷ vs))
        (λ t. let r : n < MOST_NODES = omega (arith, g t) in rw b.0 (name_room n i r))
        ∙ run_index_end strict end rest (suc n) p i (Build MakeRead ∷ s) (AnIdent (ident a name) ∷ vs) b.0
        ∙ run_build strict end rest (suc n) MakeRead s (APlace (Whole (ident a name)) ∷ vs))
    expr_reads (read {a} {name} {rest} (item {a = x} {b = z} {ts} {e} d)) p i n f g h b s vs =
        let q : suc n + nodes e ≡ n + nodes (lvalue_read (Item (ident a name) e)) = omega arith in
        stops strict a.at true (name_mark n i) (scan strict end (tok x (Sign sign.LeftBracket) ∷ ts) (suc n)
        (Index p i ∷ Build MakeRead ∷ s) (AnIdent (ident a name) ∷ vs))
        (λ t. item_room n i true (omega (arith, g t)) (omega (arith, h t)))
        ∙ stops strict x.at (here (is_sign sign.LeftBracket) ts) Within
        (scan strict end ts (suc n) (Level 9 p (suc i) ∷ ASign sign.RightBracket ∷ Build MakeElement
        ∷ Build MakeRead ∷ s) (AnIdent (ident a name) ∷ vs)) (λ t. refl)
        ∙ expr_reads d p (suc i) (suc n) f (λ t. omega (arith, g t)) (λ t. omega (arith, h t)) (refl, λ j l. refl)
        (ASign sign.RightBracket ∷ Build MakeElement ∷ Build MakeRead ∷ s) (AnIdent (ident a name) ∷ vs)
        ∙ skip_more (tok z (Sign sign.RightBracket) ∷ rest) _ 9 p (suc i)
        (ASign sign.RightBracket ∷ Build MakeElement ∷ Build MakeRead ∷ s) _ (refl, λ j l. refl)
        ∙ read_sign z sign.RightBracket rest _ (Build MakeElement ∷ Build MakeRead ∷ s) _
        ∙ run_build strict end rest _ MakeElement (Build MakeRead ∷ s) _
        ∙ run_build strict end rest _ MakeRead s _
        ∙ ap (λ m. scan strict end rest m s (AnExpr (lvalue_read (Item (ident a name) e)) ∷ vs)) q
    expr_reads (parens {a} {b = z} {ts} {rest} {e} d) p i n f g h b s vs =
        stops strict a.at (here (is_sign sign.LeftBracket) ts) (parens_mark p)
        (scan strict end ts n (Level 9 (suc p) i ∷ ASign sign.RightParen ∷ s) vs)
        (λ t. parens_room p _ (omega (arith, f t)))
        ∙ expr_reads d (suc p) i n (λ t. omega (arith, f t)) g h (refl, λ j l. refl) (ASign sign.RightParen ∷ s) vs
        ∙ skip_more (tok z (Sign sign.RightParen) ∷ rest) _ 9 (suc p) i (ASign sign.RightParen ∷ s) _
        (refl, λ j l. refl)
        ∙ read_sign z sign.RightParen rest _ s _
    expr_reads (weaker {k} {ts} {rest} {e} d) p i n f g h b s vs =
        run_level_suc strict end ts n k p i s vs
        ∙ expr_reads d p i n f g h (below_less k (suc k) rest (omega arith) b) (More (suc k) p i ∷ s) vs
        ∙ skip_tail rest (n + nodes e) k p i (More (suc k) p i ∷ s) (AnExpr e ∷ vs) b
    expr_reads (binary {k} {a} {kind} {op} {ts} {mid} {rest} {l} {r} d o dr) p i n f g h b s vs =
        let q : suc (n + nodes l) + nodes r ≡ n + nodes (Binary a.at op l r) = omega arith in
        expr_reads d p i n (λ t. omega (arith, f t)) (λ t. omega (arith, g t)) (λ t. omega (arith, h t))
        (operator_below (suc k) a kind op mid o) s vs
        ∙ rw o (stops strict a.at (here (is_sign sign.LeftBracket) mid) (node_mark (n + nodes l))
        (scan strict end mid (suc (n + nodes l)) (Level k p i ∷ Build (MakeBinary a.at op) ∷ More (suc k) p i ∷ s)
        (AnExpr l ∷ vs)) (λ t. node_room (n + nodes l) _ (omega (arith, g t)))
        ∙ expr_reads dr p i (suc (n + nodes l)) (λ t. omega (arith, f t)) (λ t. omega (arith, g t))
        (λ t. omega (arith, h t)) (below_less k (suc k) rest (omega arith) b)
        (Build (MakeBinary a.at op) ∷ More (suc k) p i ∷ s) (AnExpr l ∷ vs)
        ∙ skip_tail rest _ k p i (Build (MakeBinary a.at op) ∷ More (suc k) p i ∷ s) _ b
        ∙ run_build strict end rest _ (MakeBinary a.at op) (More (suc k) p i ∷ s) _
        ∙ ap (λ m. scan strict end rest m (More (suc k) p i ∷ s) (AnExpr (Binary a.at op l r) ∷ vs)) q)

  -- an expression, and no operator after it
  pub value_reads : {ts rest : List Token} {e : Expression} (d : IsExpr 9 ts rest e) (p i n : ℕ)
      → (IsTrue strict → p + parens_of d ≤ MOST_PARENS) → (IsTrue strict → n + nodes e ≤ MOST_NODES)
      → (IsTrue strict → i + index_depth e ≤ MOST_INDEX_DEPTH) → Below 10 rest → (s : List Part) (vs : List ParsedValue)
      → scan strict end ts n (Level 9 p i ∷ s) vs ≡ scan strict end rest (n + nodes e) s (AnExpr e ∷ vs)
  value_reads {rest} {e} d p i n f g h b s vs = expr_reads d p i n f g h (below_less 9 10 rest (omega arith) b) s vs
      ∙ skip_more rest (n + nodes e) 9 p i s (AnExpr e ∷ vs) b

  pub indexed_reads : {name : Ident} {ts rest : List Token} {l : Lvalue} (x : IsIndexed name ts rest l) (p i n : ℕ)
      → (IsTrue strict → p + index_parens x ≤ MOST_PARENS) → (IsTrue strict → n + index_nodes l ≤ MOST_NODES)
      → (IsTrue strict → i + lvalue_index_depth l ≤ MOST_INDEX_DEPTH) → here (is_sign sign.LeftBracket) rest ≡ false
      → (s : List Part) (vs : List ParsedValue) → scan strict end ts n (Index p i ∷ s) (AnIdent name ∷ vs)
      ≡ scan strict end rest (n + index_nodes l) s (APlace l ∷ vs)
  unfolding scan walk ends
  indexed_reads (whole {name} {rest}) p i n f g h b s vs =
      rw add-zero (run_index_end strict end rest n p i s (AnIdent name ∷ vs) b)
  indexed_reads (item {name} {a = x} {b = z} {ts} {rest} {e} d) p i n f g h b s vs =
      stops strict x.at (here (is_sign sign.LeftBracket) ts) Within
      (scan strict end ts n (Level 9 p (suc i) ∷ ASign sign.RightBracket ∷ Build MakeElement ∷ s)
      (AnIdent name ∷ vs)) (λ t. refl)
      ∙ value_reads d p (suc i) n f g (λ t. omega (arith, h t)) (refl, λ j l. refl)
      (ASign sign.RightBracket ∷ Build MakeElement ∷ s) (AnIdent name ∷ vs)
      ∙ read_sign z sign.RightBracket rest _ (Build MakeElement ∷ s) _
      ∙ run_build strict end rest _ MakeElement s _

  pub place_reads : {ts rest : List Token} {l : Lvalue} (x : IsPlace ts rest l) (n : ℕ)
      → (IsTrue strict → place_parens x ≤ MOST_PARENS) → (IsTrue strict → n + index_nodes l ≤ MOST_NODES)
      → (IsTrue strict → lvalue_index_depth l ≤ MOST_INDEX_DEPTH) → here (is_sign sign.LeftBracket) rest ≡ false
      → (s : List Part) (vs : List ParsedValue) → scan strict end ts n (Spot ∷ s) vs
      ≡ scan strict end rest (n + index_nodes l) s (APlace l ∷ vs)
  place_reads (place {a} {name} {ts} {rest} i) n f g h b s vs =
      run_spot strict end (tok a (Name name) ∷ ts) n s vs ∙ read_name a name ts n (Index 0 0 ∷ s) vs
      ∙ indexed_reads i 0 0 n (λ t. omega (arith, f t)) g (λ t. omega (arith, h t)) b s vs

  -- ---- types and variables

  pub bracketed_reads : {k found : VarType} {ts rest : List Token} (x : IsBracketed k ts rest found) (n : ℕ)
      → here (is_sign sign.LeftBracket) rest ≡ false → (s : List Part) (vs : List ParsedValue)
      → scan strict end ts n (Brackets ∷ s) (AType k ∷ vs) ≡ scan strict end rest n s (AType found ∷ vs)
  unfolding scan walk ends
  bracketed_reads (plain {k} {rest}) n b s vs = run_brackets_end strict end rest n s (AType k ∷ vs) b
  bracketed_reads (array {k} {a} {b = z} {rest}) n b s vs =
      stops strict a.at false Within (scan strict end (tok z (Sign sign.RightBracket) ∷ rest) n
      (ASign sign.RightBracket ∷ Build MakeArray ∷ s) (AType k ∷ vs)) (λ t. refl)
      ∙ read_sign z sign.RightBracket rest n (Build MakeArray ∷ s) (AType k ∷ vs)
      ∙ run_build strict end rest n MakeArray s (AType k ∷ vs)

  pub type_reads : {ts rest : List Token} {k : VarType} (x : IsType ts rest k) (n : ℕ)
      → here (is_sign sign.LeftBracket) rest ≡ false → (s : List Part) (vs : List ParsedValue)
      → scan strict end ts n (Kind ∷ s) vs ≡ scan strict end rest n s (AType k ∷ vs)
  unfolding scan walk ends
  type_reads (ints {a} {ts} x) n b s vs = stops strict a.at (here (is_sign sign.LeftBracket) ts) Within
      (scan strict end ts n (Brackets ∷ s) (AType kind.Int ∷ vs)) (λ t. refl) ∙ bracketed_reads x n b s vs
  type_reads (objects {a} {name} {ts} x) n b s vs = stops strict a.at (here (is_sign sign.LeftBracket) ts) Within
      (scan strict end ts n (Brackets ∷ s) (AType (kind.Class (ident a name)) ∷ vs)) (λ t. refl)
      ∙ bracketed_reads x n b s vs

  -- after a type: its variable's name
  pub named_reads : (a : Span) (name : List ℕ) (rest : List Token) (k : VarType) (n : ℕ) (s : List Part)
      (vs : List ParsedValue) → scan strict end (tok a (Name name) ∷ rest) n (var_parts s) (AType k ∷ vs)
      ≡ scan strict end rest n s (AVar (record { kind = k; name = ident a name }) ∷ vs)
  named_reads a name rest k n s vs = read_name a name rest n (Build MakeVar ∷ s) (AType k ∷ vs)
      ∙ run_build strict end rest n MakeVar s (AnIdent (ident a name) ∷ AType k ∷ vs)

  pub var_reads : {ts rest : List Token} {v : Var} (x : IsVar ts rest v) (n : ℕ) (s : List Part) (vs : List ParsedValue)
      → scan strict end ts n (Kind ∷ var_parts s) vs ≡ scan strict end rest n s (AVar v ∷ vs)
  var_reads (var {a} {name} {rest} {k} x) n s vs = type_reads x n refl (var_parts s) vs
      ∙ named_reads a name rest k n s vs

  pub param_reads : {ts rest : List Token} {v : Var} (x : IsVar ts rest v) (n c : ℕ)
      → (IsTrue strict → c < MOST_PARAMETERS) → (s : List Part) (ys : List Var) (vs : List ParsedValue)
      → scan strict end ts n (Param c ∷ s) (Vars ys ∷ vs) ≡ scan strict end rest n s (Vars (ys ++ v ∷ []) ∷ vs)
  unfolding scan walk ends
  param_reads (var {a = z} {name} {rest} {k} (ints {a} {ts} x)) n c h s ys vs =
      stops strict a.at (here (is_sign sign.LeftBracket) ts) (param_mark c)
      (scan strict end ts n (Brackets ∷ field_parts s) (AType kind.Int ∷ Vars ys ∷ vs)) (λ t. param_room c _ (h t))
      ∙ bracketed_reads x n refl (field_parts s) (Vars ys ∷ vs)
      ∙ named_reads z name rest k n (Build AddVar ∷ s) (Vars ys ∷ vs) ∙ run_build strict end rest n AddVar s _
  param_reads (var {a = z} {name} {rest} {k} (objects {a} {name = owner} {ts} x)) n c h s ys vs =
      stops strict a.at (here (is_sign sign.LeftBracket) ts) (param_mark c)
      (scan strict end ts n (Brackets ∷ field_parts s) (AType (kind.Class (ident a owner)) ∷ Vars ys ∷ vs))
      (λ t. param_room c _ (h t))
      ∙ bracketed_reads x n refl (field_parts s) (Vars ys ∷ vs)
      ∙ named_reads z name rest k n (Build AddVar ∷ s) (Vars ys ∷ vs) ∙ run_build strict end rest n AddVar s _

  pub more_params_read : {ts rest : List Token} {xs : List Var} (x : IsMoreParams ts rest xs) (n c : ℕ)
      → (IsTrue strict → c + length xs ≤ MOST_PARAMETERS) → (s : List Part) (ys : List Var) (vs : List ParsedValue)
      → scan strict end ts n (MoreParams c ∷ s) (Vars ys ∷ vs) ≡ scan strict end rest n s (Vars (ys ++ xs) ∷ vs)
  unfolding scan walk ends
  more_params_read (last_param {a} {rest}) n c h s ys vs =
      stops strict a.at (here (is_sign sign.LeftBracket) rest) Within (scan strict end rest n s (Vars ys ∷ vs))
      (λ t. refl) ∙ ap (λ l. scan strict end rest n s (Vars l ∷ vs)) (sym (append-nil ys))
  more_params_read (next_param {a} {ts} {mid} {rest} {v} {xs} x m) n c h s ys vs =
      stops strict a.at (here (is_sign sign.LeftBracket) ts) Within
      (scan strict end ts n (Param c ∷ MoreParams (suc c) ∷ s) (Vars ys ∷ vs)) (λ t. refl)
      ∙ param_reads x n c (λ t. omega (arith, h t)) (MoreParams (suc c) ∷ s) ys vs
      ∙ more_params_read m n (suc c) (λ t. omega (arith, h t)) s (ys ++ v ∷ []) vs
      ∙ ap (λ l. scan strict end rest n s (Vars l ∷ vs)) (append_assoc ys (v ∷ []) xs)

  -- the first parameter is read as any other, after none
  pub first_param : {ts rest : List Token} {v : Var} (x : IsVar ts rest v) (n : ℕ) (s : List Part) (vs : List ParsedValue)
      → scan strict end ts n (Params ∷ s) vs ≡ scan strict end ts n (Param 0 ∷ MoreParams 1 ∷ s) (Vars [] ∷ vs)
  unfolding scan walk ends
  first_param (var (ints x)) n s vs = refl
  first_param (var (objects x)) n s vs = refl

  pub params_read : {ts rest : List Token} {xs : List Var} (x : IsParams ts rest xs) (n : ℕ)
      → (IsTrue strict → length xs ≤ MOST_PARAMETERS) → (s : List Part) (vs : List ParsedValue)
      → scan strict end ts n (Params ∷ s) vs ≡ scan strict end rest n s (Vars xs ∷ vs)
  unfolding scan walk ends
  params_read (no_param {a} {rest}) n h s vs = stops strict a.at (here (is_sign sign.LeftBracket) rest) Within
      (scan strict end rest n s (Vars [] ∷ vs)) (λ t. refl)
  params_read (some_params {v} x m) n h s vs = first_param x n s vs
      ∙ param_reads x n 0 (λ t. omega (arith, h t)) (MoreParams 1 ∷ s) [] vs
      ∙ more_params_read m n 1 (λ t. omega (arith, h t)) s (v ∷ []) vs

  -- ---- what is made

  pub sized_reads : {name : Ident} {ts rest : List Token} {c : Creation} (x : IsSized name ts rest c) (n : ℕ)
      → (IsTrue strict → sized_parens x ≤ MOST_PARENS) → (IsTrue strict → n + creation_nodes c ≤ MOST_NODES)
      → (IsTrue strict → creation_index_depth c ≤ MOST_INDEX_DEPTH) → here (is_sign sign.LeftBracket) rest ≡ false
      → (s : List Part) (vs : List ParsedValue) → scan strict end ts n (Sized ∷ s) (AnIdent name ∷ vs)
      ≡ scan strict end rest (n + creation_nodes c) s (ACreation c ∷ vs)
  unfolding scan walk ends
  sized_reads (one {name} {rest}) n f g h b s vs = rw add-zero (run_sized_end strict end rest n s (AnIdent name ∷ vs) b)
  sized_reads (many {name} {a} {b = z} {ts} {rest} {e} d) n f g h b s vs =
      stops strict a.at (here (is_sign sign.LeftBracket) ts) Within
      (scan strict end ts n (Level 9 0 0 ∷ ASign sign.RightBracket ∷ Build MakeObjects ∷ s) (AnIdent name ∷ vs))
      (λ t. refl)
      ∙ value_reads d 0 0 n (λ t. omega (arith, f t)) g (λ t. omega (arith, h t)) (refl, λ j l. refl)
      (ASign sign.RightBracket ∷ Build MakeObjects ∷ s) (AnIdent name ∷ vs)
      ∙ read_sign z sign.RightBracket rest _ (Build MakeObjects ∷ s) _
      ∙ run_build strict end rest _ MakeObjects s _

  pub made_reads : {ts rest : List Token} {c : Creation} (x : IsMade ts rest c) (n : ℕ)
      → (IsTrue strict → made_parens x ≤ MOST_PARENS) → (IsTrue strict → n + creation_nodes c ≤ MOST_NODES)
      → (IsTrue strict → creation_index_depth c ≤ MOST_INDEX_DEPTH) → here (is_sign sign.LeftBracket) rest ≡ false
      → (s : List Part) (vs : List ParsedValue) → scan strict end ts n (Made ∷ s) vs
      ≡ scan strict end rest (n + creation_nodes c) s (ACreation c ∷ vs)
  unfolding scan walk ends
  made_reads (words {a} {b = y} {c = z} {ts} {rest} {e} d) n f g h b s vs =
      stops strict a.at true Within (scan strict end (tok y (Sign sign.LeftBracket) ∷ ts) n
      (ASign sign.LeftBracket ∷ Level 9 0 0 ∷ ASign sign.RightBracket ∷ Build MakeInts ∷ s) vs) (λ t. refl)
      ∙ read_sign y sign.LeftBracket ts n (Level 9 0 0 ∷ ASign sign.RightBracket ∷ Build MakeInts ∷ s) vs
      ∙ value_reads d 0 0 n (λ t. omega (arith, f t)) g (λ t. omega (arith, h t)) (refl, λ j l. refl)
      (ASign sign.RightBracket ∷ Build MakeInts ∷ s) vs
      ∙ read_sign z sign.RightBracket rest _ (Build MakeInts ∷ s) _
      ∙ run_build strict end rest _ MakeInts s _
  made_reads (named {a} {name} {ts} z) n f g h b s vs =
      stops strict a.at (here (is_sign sign.LeftBracket) ts) Within
      (scan strict end ts n (Sized ∷ s) (AnIdent (ident a name) ∷ vs)) (λ t. refl) ∙ sized_reads z n f g h b s vs

  -- ---- calls

  pub more_names_read : {ts rest : List Token} {xs : List Ident} (x : IsMoreNames ts rest xs) (n : ℕ) (s : List Part)
      (ys : List Ident) (vs : List ParsedValue) → scan strict end ts n (MoreArgs ∷ s) (Idents ys ∷ vs)
      ≡ scan strict end rest n s (Idents (ys ++ xs) ∷ vs)
  unfolding scan walk ends
  more_names_read (close {a} {rest}) n s ys vs = stops strict a.at (here (is_sign sign.LeftBracket) rest) Within
      (scan strict end rest n s (Idents ys ∷ vs)) (λ t. refl)
      ∙ ap (λ l. scan strict end rest n s (Idents l ∷ vs)) (sym (append-nil ys))
  more_names_read (comma {a} {b} {name} {ts} {rest} {xs} x) n s ys vs =
      stops strict a.at false Within (scan strict end (tok b (Name name) ∷ ts) n (AName ∷ Build AddName ∷ MoreArgs ∷ s)
      (Idents ys ∷ vs)) (λ t. refl)
      ∙ read_name b name ts n (Build AddName ∷ MoreArgs ∷ s) (Idents ys ∷ vs)
      ∙ run_build strict end ts n AddName (MoreArgs ∷ s) _
      ∙ more_names_read x n s (ys ++ ident b name ∷ []) vs
      ∙ ap (λ l. scan strict end rest n s (Idents l ∷ vs)) (append_assoc ys (ident b name ∷ []) xs)

  pub names_read : {ts rest : List Token} {xs : List Ident} (x : IsNames ts rest xs) (n : ℕ) (s : List Part)
      (vs : List ParsedValue) → scan strict end ts n (Args ∷ s) vs ≡ scan strict end rest n s (Idents xs ∷ vs)
  unfolding scan walk ends
  names_read (none {a} {rest}) n s vs = stops strict a.at (here (is_sign sign.LeftBracket) rest) Within
      (scan strict end rest n s (Idents [] ∷ vs)) (λ t. refl)
  names_read (some {a} {name} {ts} x) n s vs = stops strict a.at (here (is_sign sign.LeftBracket) ts) Within
      (scan strict end ts n (MoreArgs ∷ s) (Idents (ident a name ∷ []) ∷ vs)) (λ t. refl)
      ∙ more_names_read x n s (ident a name ∷ []) vs

  pub send_reads : (at : ℕ) (back : Bool) (b c : Span) (called : List ℕ) (ts rest : List Token) (l : Lvalue)
      (xs : List Ident) → IsNames ts rest xs → (n : ℕ) (s : List Part) (vs : List ParsedValue)
      → scan strict end (tok b (Name called) ∷ tok c (Sign sign.LeftParen) ∷ ts) n (send_parts at back s)
      (APlace l ∷ vs) ≡ scan strict end rest n s (AStatement (Call at back (Some l) (ident b called) xs) ∷ vs)
  send_reads at back b c called ts rest l xs x n s vs =
      read_name b called (tok c (Sign sign.LeftParen) ∷ ts) n
      (ASign sign.LeftParen ∷ Args ∷ Build (MakeSend at back) ∷ s) (APlace l ∷ vs)
      ∙ read_sign c sign.LeftParen ts n (Args ∷ Build (MakeSend at back) ∷ s) _
      ∙ names_read x n (Build (MakeSend at back) ∷ s) _
      ∙ run_build strict end rest n (MakeSend at back) s _

  pub target_reads : {at : ℕ} {back : Bool} {name : Ident} {ts rest : List Token} {x : Statement}
      (r : IsTarget at back name ts rest x) (d l : ℕ) → (IsTrue strict → Fits d l x)
      → (IsTrue strict → target_parens r ≤ MOST_PARENS) → (s : List Part) (vs : List ParsedValue)
      → scan strict end ts 0 (Receiver at back l ∷ Count 0 ∷ s) (AnIdent name ∷ vs)
      ≡ scan strict end rest 0 s (AStatement x ∷ vs)
  unfolding scan walk ends
  target_reads {at} {back} {name} (own {a} {ts} {rest} r) d l f g s vs =
      stops strict a.at (here (is_sign sign.LeftBracket) ts) Within
      (scan strict end ts 0 (Args ∷ Build (MakeCall at back) ∷ Count 0 ∷ s) (AnIdent name ∷ vs)) (λ t. refl)
      ∙ names_read r 0 (Build (MakeCall at back) ∷ Count 0 ∷ s) (AnIdent name ∷ vs)
      ∙ run_build strict end rest 0 (MakeCall at back) (Count 0 ∷ s) _ ∙ run_count strict end rest 0 0 s _
  target_reads {at} {back} {name} (on {a} {b} {c} {method = called} {mid} {rest} {xs} whole r) d l f g s vs =
      stops strict a.at false Within (scan strict end (tok b (Name called) ∷ tok c (Sign sign.LeftParen) ∷ mid) 0
      (send_parts at back (Count 0 ∷ s)) (APlace (Whole name) ∷ vs)) (λ t. refl)
      ∙ send_reads at back b c called mid rest (Whole name) xs r 0 (Count 0 ∷ s) vs ∙ run_count strict end rest 0 0 s _
  target_reads {at} {back} {name} (on {a} {b} {c} {method = called} {mid} {rest} {xs} (item {a = y} {b = z} {ts} {e} i)
      r) d l f g s vs =
      let tail = tok a (Sign sign.DoubleColon) ∷ tok b (Name called) ∷ tok c (Sign sign.LeftParen) ∷ mid in
      let after = ASign sign.RightBracket ∷ Build MakeElement ∷ ASign sign.DoubleColon
      ∷ send_parts at back (Count 0 ∷ s) in
      stops strict y.at (here (is_sign sign.LeftBracket) ts) (locals_mark l)
      (scan strict end ts 0 (Level 9 0 1 ∷ after) (AnIdent name ∷ vs))
      (λ t. let h : l + 1 ≤ MOST_LOCALS = (f t).held in locals_room l _ (omega (arith, h)))
      ∙ value_reads i 0 1 0 (λ t. omega (arith, g t)) (λ t. let h : nodes e ≤ MOST_NODES = (f t).small.nodes in
      omega (arith, h)) (λ t. let h : 1 + index_depth e ≤ MOST_INDEX_DEPTH = (f t).small.indexes in
      omega (arith, h)) (refl, λ j m. refl) after (AnIdent name ∷ vs)
      ∙ read_sign z sign.RightBracket tail _ (Build MakeElement ∷ ASign sign.DoubleColon
      ∷ send_parts at back (Count 0 ∷ s)) (AnExpr e ∷ AnIdent name ∷ vs)
      ∙ run_build strict end tail _ MakeElement (ASign sign.DoubleColon ∷ send_parts at back (Count 0 ∷ s))
      (AnExpr e ∷ AnIdent name ∷ vs)
      ∙ read_sign a sign.DoubleColon (tok b (Name called) ∷ tok c (Sign sign.LeftParen) ∷ mid) _
      (send_parts at back (Count 0 ∷ s)) (APlace (Item name e) ∷ vs)
      ∙ send_reads at back b c called mid rest (Item name e) xs r _ (Count 0 ∷ s) vs ∙ run_count strict end rest _ 0 s _

  -- ---- statements

  pub begin_assign : (a : Span) (name : List ℕ) (ts : List Token) (n d l : ℕ) → (IsTrue strict → d < MOST_NESTING)
      → (s : List Part) (vs : List ParsedValue) → scan strict end (tok a (Name name) ∷ ts) n (Single d l ∷ s) vs
      ≡ scan strict end ts 0 (Index 0 0 ∷ Assign a.at ∷ Count 0 ∷ s) (AnIdent (ident a name) ∷ vs)
  unfolding scan walk
  begin_assign a name ts n d l h s vs = stops strict a.at (here (is_sign sign.LeftBracket) ts) (nesting_mark d)
      (scan strict end ts 0 (Index 0 0 ∷ Assign a.at ∷ Count 0 ∷ s) (AnIdent (ident a name) ∷ vs))
      (λ t. nesting_room d _ (h t))

  pub begin_if : (a : Span) (ts : List Token) (n d l : ℕ) → (IsTrue strict → d < MOST_NESTING)
      → (s : List Part) (vs : List ParsedValue) → scan strict end (tok a (Word word.If) ∷ ts) n (Single d l ∷ s) vs
      ≡ scan strict end ts 0 (Level 9 0 0 ∷ Branches word.Then word.Else word.Fi d l ∷ Build (MakeIf a.at) ∷ Count 0
      ∷ s) vs
  unfolding scan walk
  begin_if a ts n d l h s vs = stops strict a.at (here (is_sign sign.LeftBracket) ts) (nesting_mark d)
      (scan strict end ts 0 (Level 9 0 0 ∷ Branches word.Then word.Else word.Fi d l ∷ Build (MakeIf a.at) ∷ Count 0 ∷ s)
      vs) (λ t. nesting_room d _ (h t))

  pub begin_from : (a : Span) (ts : List Token) (n d l : ℕ) → (IsTrue strict → d < MOST_NESTING)
      → (s : List Part) (vs : List ParsedValue) → scan strict end (tok a (Word word.From) ∷ ts) n (Single d l ∷ s) vs
      ≡ scan strict end ts 0 (Level 9 0 0 ∷ Branches word.Do word.Loop word.Until d l ∷ Build (MakeFrom a.at) ∷ Count 0
      ∷ s) vs
  unfolding scan walk
  begin_from a ts n d l h s vs = stops strict a.at (here (is_sign sign.LeftBracket) ts) (nesting_mark d)
      (scan strict end ts 0 (Level 9 0 0 ∷ Branches word.Do word.Loop word.Until d l ∷ Build (MakeFrom a.at) ∷ Count 0
      ∷ s) vs) (λ t. nesting_room d _ (h t))

  pub begin_construct : (a : Span) (ts : List Token) (n d l : ℕ) → (IsTrue strict → d < MOST_NESTING)
      → (IsTrue strict → l < MOST_LOCALS) → (s : List Part) (vs : List ParsedValue)
      → scan strict end (tok a (Word word.Construct) ∷ ts) n (Single d l ∷ s) vs
      ≡ scan strict end ts 0 (AName ∷ AName ∷ Block (suc d) (suc l) ∷ AWord word.Destruct ∷ AName
      ∷ Build (MakeConstruct a.at) ∷ s) vs
  unfolding scan walk
  begin_construct a ts n d l h g s vs = stops strict a.at (here (is_sign sign.LeftBracket) ts) (scope_mark d l)
      (scan strict end ts 0 (AName ∷ AName ∷ Block (suc d) (suc l) ∷ AWord word.Destruct ∷ AName
      ∷ Build (MakeConstruct a.at) ∷ s) vs) (λ t. scope_room d l _ (h t) (g t))

  pub begin_local : (a : Span) (ts : List Token) (n d l : ℕ) → (IsTrue strict → d < MOST_NESTING)
      → (IsTrue strict → l < MOST_LOCALS) → (s : List Part) (vs : List ParsedValue)
      → scan strict end (tok a (Word word.Local) ∷ ts) n (Single d l ∷ s) vs
      ≡ scan strict end ts 0 (Kind ∷ var_parts (ASign sign.Equal ∷ Level 9 0 0 ∷ Scope d l ∷ Build (MakeLocal a.at)
      ∷ Count 0 ∷ s)) vs
  unfolding scan walk
  begin_local a ts n d l h g s vs = stops strict a.at (here (is_sign sign.LeftBracket) ts) (scope_mark d l)
      (scan strict end ts 0 (Kind ∷ var_parts (ASign sign.Equal ∷ Level 9 0 0 ∷ Scope d l ∷ Build (MakeLocal a.at)
      ∷ Count 0 ∷ s)) vs) (λ t. scope_room d l _ (h t) (g t))

  pub begin_new : (a : Span) (ts : List Token) (n d l : ℕ) → (IsTrue strict → d < MOST_NESTING)
      → (s : List Part) (vs : List ParsedValue) → scan strict end (tok a (Word word.New) ∷ ts) n (Single d l ∷ s) vs
      ≡ scan strict end ts 0 (Made ∷ Spot ∷ Build (MakeNew a.at) ∷ Count 0 ∷ s) vs
  unfolding scan walk
  begin_new a ts n d l h s vs = stops strict a.at (here (is_sign sign.LeftBracket) ts) (nesting_mark d)
      (scan strict end ts 0 (Made ∷ Spot ∷ Build (MakeNew a.at) ∷ Count 0 ∷ s) vs) (λ t. nesting_room d _ (h t))

  pub begin_delete : (a : Span) (ts : List Token) (n d l : ℕ) → (IsTrue strict → d < MOST_NESTING)
      → (s : List Part) (vs : List ParsedValue) → scan strict end (tok a (Word word.Delete) ∷ ts) n (Single d l ∷ s) vs
      ≡ scan strict end ts 0 (Made ∷ Spot ∷ Build (MakeDelete a.at) ∷ Count 0 ∷ s) vs
  unfolding scan walk
  begin_delete a ts n d l h s vs = stops strict a.at (here (is_sign sign.LeftBracket) ts) (nesting_mark d)
      (scan strict end ts 0 (Made ∷ Spot ∷ Build (MakeDelete a.at) ∷ Count 0 ∷ s) vs) (λ t. nesting_room d _ (h t))

  pub begin_copy : (a : Span) (ts : List Token) (n d l : ℕ) → (IsTrue strict → d < MOST_NESTING)
      → (s : List Part) (vs : List ParsedValue) → scan strict end (tok a (Word word.Copy) ∷ ts) n (Single d l ∷ s) vs
      ≡ scan strict end ts 0 (Kind ∷ Spot ∷ Spot ∷ Build (MakeCopy a.at) ∷ Count 0 ∷ s) vs
  unfolding scan walk
  begin_copy a ts n d l h s vs = stops strict a.at (here (is_sign sign.LeftBracket) ts) (nesting_mark d)
      (scan strict end ts 0 (Kind ∷ Spot ∷ Spot ∷ Build (MakeCopy a.at) ∷ Count 0 ∷ s) vs) (λ t. nesting_room d _ (h t))

  pub begin_uncopy : (a : Span) (ts : List Token) (n d l : ℕ) → (IsTrue strict → d < MOST_NESTING)
      → (s : List Part) (vs : List ParsedValue) → scan strict end (tok a (Word word.Uncopy) ∷ ts) n (Single d l ∷ s) vs
      ≡ scan strict end ts 0 (Kind ∷ Spot ∷ Spot ∷ Build (MakeUncopy a.at) ∷ Count 0 ∷ s) vs
  unfolding scan walk
  begin_uncopy a ts n d l h s vs = stops strict a.at (here (is_sign sign.LeftBracket) ts) (nesting_mark d)
      (scan strict end ts 0 (Kind ∷ Spot ∷ Spot ∷ Build (MakeUncopy a.at) ∷ Count 0 ∷ s) vs)
      (λ t. nesting_room d _ (h t))

  pub begin_call : (a : Span) (ts : List Token) (n d l : ℕ) → (IsTrue strict → d < MOST_NESTING)
      → (s : List Part) (vs : List ParsedValue) → scan strict end (tok a (Word word.Call) ∷ ts) n (Single d l ∷ s) vs
      ≡ scan strict end ts 0 (AName ∷ Receiver a.at false l ∷ Count 0 ∷ s) vs
  unfolding scan walk
  begin_call a ts n d l h s vs = stops strict a.at (here (is_sign sign.LeftBracket) ts) (nesting_mark d)
      (scan strict end ts 0 (AName ∷ Receiver a.at false l ∷ Count 0 ∷ s) vs) (λ t. nesting_room d _ (h t))

  pub begin_uncall : (a : Span) (ts : List Token) (n d l : ℕ) → (IsTrue strict → d < MOST_NESTING)
      → (s : List Part) (vs : List ParsedValue) → scan strict end (tok a (Word word.Uncall) ∷ ts) n (Single d l ∷ s) vs
      ≡ scan strict end ts 0 (AName ∷ Receiver a.at true l ∷ Count 0 ∷ s) vs
  unfolding scan walk
  begin_uncall a ts n d l h s vs = stops strict a.at (here (is_sign sign.LeftBracket) ts) (nesting_mark d)
      (scan strict end ts 0 (AName ∷ Receiver a.at true l ∷ Count 0 ∷ s) vs) (λ t. nesting_room d _ (h t))

  pub begin_skip : (a : Span) (ts : List Token) (n d l : ℕ) → (IsTrue strict → d < MOST_NESTING)
      → (s : List Part) (vs : List ParsedValue) → scan strict end (tok a (Word word.Skip) ∷ ts) n (Single d l ∷ s) vs
      ≡ scan strict end ts 0 s (AStatement (Skip a.at) ∷ vs)
  unfolding scan walk
  begin_skip a ts n d l h s vs = stops strict a.at (here (is_sign sign.LeftBracket) ts) (nesting_mark d)
      (scan strict end ts 0 s (AStatement (Skip a.at) ∷ vs)) (λ t. nesting_room d _ (h t))

  pub read_update : (at : ℕ) (a : Span) (kind : TokenKind) (op : UpdateOp) (ts : List Token) (n : ℕ) (s : List Part)
      (vs : List ParsedValue) → update_operator kind ≡ Some op → scan strict end (tok a kind ∷ ts) n (Assign at ∷ s) vs
      ≡ scan strict end ts n (Level 9 0 0 ∷ Build (MakeUpdate at op) ∷ s) vs
  unfolding scan walk
  read_update at a kind op ts n s vs h = rw h (stops strict a.at (here (is_sign sign.LeftBracket) ts) Within
      (scan strict end ts n (Level 9 0 0 ∷ Build (MakeUpdate at op) ∷ s) vs) (λ t. refl))

  pub read_swap : (at : ℕ) (a : Span) (ts : List Token) (n : ℕ) (s : List Part) (vs : List ParsedValue)
      → scan strict end (tok a (Sign sign.Swap) ∷ ts) n (Assign at ∷ s) vs
      ≡ scan strict end ts n (Spot ∷ Build (MakeSwap at) ∷ s) vs
  unfolding scan walk
  read_swap at a ts n s vs = stops strict a.at (here (is_sign sign.LeftBracket) ts) Within
      (scan strict end ts n (Spot ∷ Build (MakeSwap at) ∷ s) vs) (λ t. refl)

  pub assigned_reads : {at : ℕ} {p : Lvalue} {ts rest : List Token} {x : Statement} (r : IsAssigned at p ts rest x)
      (n : ℕ) → n ≡ index_nodes p → (IsTrue strict → IsSmallStatement x)
      → (IsTrue strict → assigned_parens r ≤ MOST_PARENS) → Below 10 rest → (s : List Part) (vs : List ParsedValue)
      → scan strict end ts n (Assign at ∷ Count 0 ∷ s) (APlace p ∷ vs) ≡ scan strict end rest 0 s (AStatement x ∷ vs)
  assigned_reads {at} {p} (update {a} {kind} {op} {ts} {rest} {e} h d) n same f g b s vs =
      read_update at a kind op ts n (Count 0 ∷ s) (APlace p ∷ vs) h
      ∙ value_reads d 0 0 n (λ t. omega (arith, g t)) (λ t. let m : index_nodes p + nodes e ≤ MOST_NODES = (f t).nodes
      in omega (arith, m, same)) (λ t. let m : max (lvalue_index_depth p) (index_depth e) ≤ MOST_INDEX_DEPTH
      = (f t).indexes in omega (arith, m)) b (Build (MakeUpdate at op) ∷ Count 0 ∷ s) (APlace p ∷ vs)
      ∙ run_build strict end rest _ (MakeUpdate at op) (Count 0 ∷ s) (AnExpr e ∷ APlace p ∷ vs)
      ∙ run_count strict end rest _ 0 s _
  assigned_reads {at} {p} (swap {q} {a} {ts} {rest} r) n same f g b s vs =
      read_swap at a ts n (Count 0 ∷ s) (APlace p ∷ vs)
      ∙ place_reads r n g (λ t. let m : index_nodes p + index_nodes q ≤ MOST_NODES = (f t).nodes in
      omega (arith, m, same)) (λ t. let m : max (lvalue_index_depth p) (lvalue_index_depth q) ≤ MOST_INDEX_DEPTH
      = (f t).indexes in omega (arith, m)) b.0 (Build (MakeSwap at) ∷ Count 0 ∷ s) (APlace p ∷ vs)
      ∙ run_build strict end rest _ (MakeSwap at) (Count 0 ∷ s) (APlace q ∷ APlace p ∷ vs)
      ∙ run_count strict end rest _ 0 s _

  pub assigned_begins : {at : ℕ} {p : Lvalue} {ts rest : List Token} {x : Statement} → IsAssigned at p ts rest x
      → here (is_sign sign.LeftBracket) ts ≡ false
  assigned_begins (update {kind} {op} h d) = update_no_bracket kind op h
  assigned_begins (swap r) = refl

  -- the place of an assignment keeps the limits of its statement
  assigned_small : {at : ℕ} {p : Lvalue} {ts rest : List Token} {x : Statement} → IsAssigned at p ts rest x
      → IsSmallStatement x → (index_nodes p ≤ MOST_NODES) × (lvalue_index_depth p ≤ MOST_INDEX_DEPTH)
  assigned_small {p} (update {e} h d) f =
      let m : index_nodes p + nodes e ≤ MOST_NODES = f.nodes in
      let k : max (lvalue_index_depth p) (index_depth e) ≤ MOST_INDEX_DEPTH = f.indexes in
      (omega (arith, m), omega (arith, k))
  assigned_small {p} (swap {q} r) f =
      let m : index_nodes p + index_nodes q ≤ MOST_NODES = f.nodes in
      let k : max (lvalue_index_depth p) (lvalue_index_depth q) ≤ MOST_INDEX_DEPTH = f.indexes in
      (omega (arith, m), omega (arith, k))

  pub place_begins : {ts rest : List Token} {l : Lvalue} → IsPlace ts rest l
      → here (is_sign sign.LeftBracket) ts ≡ false
  place_begins (place i) = refl

  pub statement_begins : {ts rest : List Token} {x : Statement} → IsStatement ts rest x
      → (here starts ts ≡ true) × Below 10 ts
  statement_begins (assign i r) = (refl, (refl, λ j l. refl))
  statement_begins (conditional d r) = (refl, (refl, λ j l. refl))
  statement_begins (repeat d r) = (refl, (refl, λ j l. refl))
  statement_begins (construct r) = (refl, (refl, λ j l. refl))
  statement_begins (declare v d r) = (refl, (refl, λ j l. refl))
  statement_begins (make m p) = (refl, (refl, λ j l. refl))
  statement_begins (delete m p) = (refl, (refl, λ j l. refl))
  statement_begins (copy k p q) = (refl, (refl, λ j l. refl))
  statement_begins (uncopy k p q) = (refl, (refl, λ j l. refl))
  statement_begins (call r) = (refl, (refl, λ j l. refl))
  statement_begins (uncall r) = (refl, (refl, λ j l. refl))
  statement_begins skip = (refl, (refl, λ j l. refl))

  pub block_begins : {ts rest : List Token} {b : Statements} → IsBlock ts rest b → Below 10 ts
  block_begins (block r rs) = (statement_begins r).1

  pub scope_begins : {ts rest : List Token} {b : Statements} {w : Var} {e : Expression} → IsScope ts rest b w e
      → Below 10 ts
  scope_begins (scope b v d) = block_begins b

  pub branches_begin : {first second third : Keyword} {ts rest : List Token} {a b : Statements} {e : Expression}
      → IsBranches first second third ts rest a b e → Below 10 ts
  branches_begin (branches a b d) = (refl, λ j l. refl)

  pub below_statements : {ts rest : List Token} {xs : List Statement} → IsStatements ts rest xs → Below 10 rest
      → Below 10 ts
  below_statements finish b = b
  below_statements (then r rs) b = (statement_begins r).1

  mutual
    pub single_reads : {ts rest : List Token} {x : Statement} (r : IsStatement ts rest x) (d l n : ℕ)
        → (IsTrue strict → Fits d l x) → (IsTrue strict → statement_parens r ≤ MOST_PARENS) → Below 10 rest
        → (s : List Part) (vs : List ParsedValue) → scan strict end ts n (Single d l ∷ s) vs
        ≡ scan strict end rest 0 s (AStatement x ∷ vs)
    single_reads (assign {a} {name} {ts} {mid} {p} i r) d l n f g b s vs =
        let small : IsTrue strict → (index_nodes p ≤ MOST_NODES) × (lvalue_index_depth p ≤ MOST_INDEX_DEPTH) =
        λ t. assigned_small r (f t).small in
        begin_assign a name ts n d l (λ t. nested_once (f t)) s vs
        ∙ indexed_reads i 0 0 0 (λ t. omega (arith, g t)) (λ t. omega (arith, (small t).0))
        (λ t. omega (arith, (small t).1)) (assigned_begins r) (Assign a.at ∷ Count 0 ∷ s) vs
        ∙ assigned_reads r _ (omega arith) (λ t. (f t).small) (λ t. omega (arith, g t)) b s vs
    single_reads (conditional {a} {ts} {mid} {rest} {test} {behind} {taken} {other} e r) d l n f g b s vs =
        let small : IsTrue strict → nodes test + nodes behind ≤ MOST_NODES = λ t. (f t).small.nodes in
        let deep : IsTrue strict → max (index_depth test) (index_depth behind) ≤ MOST_INDEX_DEPTH =
        λ t. (f t).small.indexes in
        begin_if a ts n d l (λ t. nested_once (f t)) s vs
        ∙ value_reads e 0 0 0 (λ t. omega (arith, g t)) (λ t. omega (arith, small t)) (λ t. omega (arith, deep t))
        (branches_begin r) (Branches word.Then word.Else word.Fi d l ∷ Build (MakeIf a.at) ∷ Count 0 ∷ s) vs
        ∙ branches_read r d l _ refl refl (λ t. if_taken (f t)) (λ t. if_other (f t)) (λ t. omega (arith, small t))
        (λ t. omega (arith, deep t)) (λ t. omega (arith, g t)) b (Build (MakeIf a.at) ∷ Count 0 ∷ s)
        (AnExpr test ∷ vs)
        ∙ run_build strict end rest _ (MakeIf a.at) (Count 0 ∷ s)
        (AnExpr behind ∷ ABlock other ∷ ABlock taken ∷ AnExpr test ∷ vs) ∙ run_count strict end rest _ 0 s _
    single_reads (repeat {a} {ts} {mid} {rest} {entry} {exit} {first} {again} e r) d l n f g b s vs =
        let small : IsTrue strict → nodes entry + nodes exit ≤ MOST_NODES = λ t. (f t).small.nodes in
        let deep : IsTrue strict → max (index_depth entry) (index_depth exit) ≤ MOST_INDEX_DEPTH =
        λ t. (f t).small.indexes in
        begin_from a ts n d l (λ t. nested_once (f t)) s vs
        ∙ value_reads e 0 0 0 (λ t. omega (arith, g t)) (λ t. omega (arith, small t)) (λ t. omega (arith, deep t))
        (branches_begin r) (Branches word.Do word.Loop word.Until d l ∷ Build (MakeFrom a.at) ∷ Count 0 ∷ s) vs
        ∙ branches_read r d l _ refl refl (λ t. from_first (f t)) (λ t. from_again (f t)) (λ t. omega (arith, small t))
        (λ t. omega (arith, deep t)) (λ t. omega (arith, g t)) b (Build (MakeFrom a.at) ∷ Count 0 ∷ s)
        (AnExpr entry ∷ vs)
        ∙ run_build strict end rest _ (MakeFrom a.at) (Count 0 ∷ s)
        (AnExpr exit ∷ ABlock again ∷ ABlock first ∷ AnExpr entry ∷ vs) ∙ run_count strict end rest _ 0 s _
    single_reads (construct {a} {b = b1} {c} {d = d1} {e = e1} {class = owner} {name} {last} {ts} {rest} {body} r) d l n
        f g b s vs =
        begin_construct a (tok b1 (Name owner) ∷ tok c (Name name) ∷ ts) n d l (λ t. nested_once (f t))
        (λ t. held_construct (f t)) s vs
        ∙ read_name b1 owner (tok c (Name name) ∷ ts) 0 (AName ∷ Block (suc d) (suc l) ∷ AWord word.Destruct ∷ AName
        ∷ Build (MakeConstruct a.at) ∷ s) vs
        ∙ read_name c name ts 0 (Block (suc d) (suc l) ∷ AWord word.Destruct ∷ AName ∷ Build (MakeConstruct a.at) ∷ s)
        (AnIdent (ident b1 owner) ∷ vs)
        ∙ block_reads r (suc d) (suc l) 0 (λ t. construct_body (f t)) g (refl, λ j m. refl) refl
        (AWord word.Destruct ∷ AName ∷ Build (MakeConstruct a.at) ∷ s)
        (AnIdent (ident c name) ∷ AnIdent (ident b1 owner) ∷ vs)
        ∙ read_word d1 word.Destruct (tok e1 (Name last) ∷ rest) 0 (AName ∷ Build (MakeConstruct a.at) ∷ s)
        (ABlock body ∷ AnIdent (ident c name) ∷ AnIdent (ident b1 owner) ∷ vs)
        ∙ read_name e1 last rest 0 (Build (MakeConstruct a.at) ∷ s)
        (ABlock body ∷ AnIdent (ident c name) ∷ AnIdent (ident b1 owner) ∷ vs)
        ∙ run_build strict end rest 0 (MakeConstruct a.at) s _
    single_reads (declare {a} {b = b1} {ts} {us} {mid} {rest} {v} {w} {value} {end_value} {body} x e r) d l n f g b s vs
        =
        let small : IsTrue strict → nodes value + nodes end_value ≤ MOST_NODES = λ t. (f t).small.nodes in
        let deep : IsTrue strict → max (index_depth value) (index_depth end_value) ≤ MOST_INDEX_DEPTH =
        λ t. (f t).small.indexes in
        begin_local a ts n d l (λ t. nested_once (f t)) (λ t. held_local (f t)) s vs
        ∙ var_reads x 0 (ASign sign.Equal ∷ Level 9 0 0 ∷ Scope d l ∷ Build (MakeLocal a.at) ∷ Count 0 ∷ s) vs
        ∙ read_sign b1 sign.Equal us 0 (Level 9 0 0 ∷ Scope d l ∷ Build (MakeLocal a.at) ∷ Count 0 ∷ s) (AVar v ∷ vs)
        ∙ value_reads e 0 0 0 (λ t. omega (arith, g t)) (λ t. omega (arith, small t)) (λ t. omega (arith, deep t))
        (scope_begins r) (Scope d l ∷ Build (MakeLocal a.at) ∷ Count 0 ∷ s) (AVar v ∷ vs)
        ∙ scope_reads r d l _ (λ t. local_body (f t)) (λ t. omega (arith, small t)) (λ t. omega (arith, deep t))
        (λ t. omega (arith, g t)) b (Build (MakeLocal a.at) ∷ Count 0 ∷ s) (AnExpr value ∷ AVar v ∷ vs)
        ∙ run_build strict end rest _ (MakeLocal a.at) (Count 0 ∷ s)
        (AnExpr end_value ∷ AVar w ∷ ABlock body ∷ AnExpr value ∷ AVar v ∷ vs) ∙ run_count strict end rest _ 0 s _
    single_reads (make {a} {ts} {mid} {rest} {c} {p} m q) d l n f g b s vs =
        let small : IsTrue strict → creation_nodes c + index_nodes p ≤ MOST_NODES = λ t. (f t).small.nodes in
        let deep : IsTrue strict → max (creation_index_depth c) (lvalue_index_depth p) ≤ MOST_INDEX_DEPTH =
        λ t. (f t).small.indexes in
        begin_new a ts n d l (λ t. nested_once (f t)) s vs
        ∙ made_reads m 0 (λ t. omega (arith, g t)) (λ t. omega (arith, small t)) (λ t. omega (arith, deep t))
        (place_begins q) (Spot ∷ Build (MakeNew a.at) ∷ Count 0 ∷ s) vs
        ∙ place_reads q _ (λ t. omega (arith, g t)) (λ t. omega (arith, small t)) (λ t. omega (arith, deep t)) b.0
        (Build (MakeNew a.at) ∷ Count 0 ∷ s) (ACreation c ∷ vs)
        ∙ run_build strict end rest _ (MakeNew a.at) (Count 0 ∷ s) (APlace p ∷ ACreation c ∷ vs)
        ∙ run_count strict end rest _ 0 s _
    single_reads (delete {a} {ts} {mid} {rest} {c} {p} m q) d l n f g b s vs =
        let small : IsTrue strict → creation_nodes c + index_nodes p ≤ MOST_NODES = λ t. (f t).small.nodes in
        let deep : IsTrue strict → max (creation_index_depth c) (lvalue_index_depth p) ≤ MOST_INDEX_DEPTH =
        λ t. (f t).small.indexes in
        begin_delete a ts n d l (λ t. nested_once (f t)) s vs
        ∙ made_reads m 0 (λ t. omega (arith, g t)) (λ t. omega (arith, small t)) (λ t. omega (arith, deep t))
        (place_begins q) (Spot ∷ Build (MakeDelete a.at) ∷ Count 0 ∷ s) vs
        ∙ place_reads q _ (λ t. omega (arith, g t)) (λ t. omega (arith, small t)) (λ t. omega (arith, deep t)) b.0
        (Build (MakeDelete a.at) ∷ Count 0 ∷ s) (ACreation c ∷ vs)
        ∙ run_build strict end rest _ (MakeDelete a.at) (Count 0 ∷ s) (APlace p ∷ ACreation c ∷ vs)
        ∙ run_count strict end rest _ 0 s _
    single_reads (copy {a} {ts} {us} {vs = ws} {rest} {k} {p} {q} x y z) d l n f g b s vs =
        let small : IsTrue strict → index_nodes p + index_nodes q ≤ MOST_NODES = λ t. (f t).small.nodes in
        let deep : IsTrue strict → max (lvalue_index_depth p) (lvalue_index_depth q) ≤ MOST_INDEX_DEPTH =
        λ t. (f t).small.indexes in
        begin_copy a ts n d l (λ t. nested_once (f t)) s vs
        ∙ type_reads x 0 (place_begins y) (Spot ∷ Spot ∷ Build (MakeCopy a.at) ∷ Count 0 ∷ s) vs
        ∙ place_reads y 0 (λ t. omega (arith, g t)) (λ t. omega (arith, small t)) (λ t. omega (arith, deep t))
        (place_begins z) (Spot ∷ Build (MakeCopy a.at) ∷ Count 0 ∷ s) (AType k ∷ vs)
        ∙ place_reads z _ (λ t. omega (arith, g t)) (λ t. omega (arith, small t)) (λ t. omega (arith, deep t)) b.0
        (Build (MakeCopy a.at) ∷ Count 0 ∷ s) (APlace p ∷ AType k ∷ vs)
        ∙ run_build strict end rest _ (MakeCopy a.at) (Count 0 ∷ s) (APlace q ∷ APlace p ∷ AType k ∷ vs)
        ∙ run_count strict end rest _ 0 s _
    single_reads (uncopy {a} {ts} {us} {vs = ws} {rest} {k} {p} {q} x y z) d l n f g b s vs =
        let small : IsTrue strict → index_nodes p + index_nodes q ≤ MOST_NODES = λ t. (f t).small.nodes in
        let deep : IsTrue strict → max (lvalue_index_depth p) (lvalue_index_depth q) ≤ MOST_INDEX_DEPTH =
        λ t. (f t).small.indexes in
        begin_uncopy a ts n d l (λ t. nested_once (f t)) s vs
        ∙ type_reads x 0 (place_begins y) (Spot ∷ Spot ∷ Build (MakeUncopy a.at) ∷ Count 0 ∷ s) vs
        ∙ place_reads y 0 (λ t. omega (arith, g t)) (λ t. omega (arith, small t)) (λ t. omega (arith, deep t))
        (place_begins z) (Spot ∷ Build (MakeUncopy a.at) ∷ Count 0 ∷ s) (AType k ∷ vs)
        ∙ place_reads z _ (λ t. omega (arith, g t)) (λ t. omega (arith, small t)) (λ t. omega (arith, deep t)) b.0
        (Build (MakeUncopy a.at) ∷ Count 0 ∷ s) (APlace p ∷ AType k ∷ vs)
        ∙ run_build strict end rest _ (MakeUncopy a.at) (Count 0 ∷ s) (APlace q ∷ APlace p ∷ AType k ∷ vs)
        ∙ run_count strict end rest _ 0 s _
    single_reads (call {a} {b = b1} {name} {ts} r) d l n f g b s vs =
        begin_call a (tok b1 (Name name) ∷ ts) n d l (λ t. nested_once (f t)) s vs
        ∙ read_name b1 name ts 0 (Receiver a.at false l ∷ Count 0 ∷ s) vs
        ∙ target_reads r d l f g s vs
    single_reads (uncall {a} {b = b1} {name} {ts} r) d l n f g b s vs =
        begin_uncall a (tok b1 (Name name) ∷ ts) n d l (λ t. nested_once (f t)) s vs
        ∙ read_name b1 name ts 0 (Receiver a.at true l ∷ Count 0 ∷ s) vs
        ∙ target_reads r d l f g s vs
    single_reads (skip {a} {rest}) d l n f g b s vs = begin_skip a rest n d l (λ t. nested_once (f t)) s vs

    pub branches_read : {first second third : Keyword} {ts rest : List Token} {x y : Statements} {e : Expression}
        (r : IsBranches first second third ts rest x y e) (d l n : ℕ) → starts (Word second) ≡ false
        → starts (Word third) ≡ false → (IsTrue strict → BlockFits (suc d) l x)
        → (IsTrue strict → BlockFits (suc d) l y) → (IsTrue strict → n + nodes e ≤ MOST_NODES)
        → (IsTrue strict → index_depth e ≤ MOST_INDEX_DEPTH) → (IsTrue strict → branch_parens r ≤ MOST_PARENS)
        → Below 10 rest → (s : List Part) (vs : List ParsedValue)
        → scan strict end ts n (Branches first second third d l ∷ s) vs
        ≡ scan strict end rest (n + nodes e) s (AnExpr e ∷ ABlock y ∷ ABlock x ∷ vs)
    branches_read {first} {second} {third} (branches {a} {b = b1} {c} {ts} {us} {vs = ws} {rest} {taken} {other} {e} r1
        r2 r3) d l n o2 o3 f1 f2 g h k b s vs =
        run_branches strict end (tok a (Word first) ∷ ts) n first second third d l s vs
        ∙ read_word a first ts n (branch_parts second third d l n s) vs
        ∙ block_reads r1 (suc d) l n f1 (λ t. omega (arith, k t)) (refl, λ j m. refl) o2
        (AWord second ∷ Block (suc d) l ∷ AWord third ∷ Count n ∷ Level 9 0 0 ∷ s) vs
        ∙ read_word b1 second us 0 (Block (suc d) l ∷ AWord third ∷ Count n ∷ Level 9 0 0 ∷ s) (ABlock taken ∷ vs)
        ∙ block_reads r2 (suc d) l 0 f2 (λ t. omega (arith, k t)) (refl, λ j m. refl) o3
        (AWord third ∷ Count n ∷ Level 9 0 0 ∷ s) (ABlock taken ∷ vs)
        ∙ read_word c third ws 0 (Count n ∷ Level 9 0 0 ∷ s) (ABlock other ∷ ABlock taken ∷ vs)
        ∙ run_count strict end ws 0 n (Level 9 0 0 ∷ s) (ABlock other ∷ ABlock taken ∷ vs)
        ∙ value_reads r3 0 0 n (λ t. omega (arith, k t)) g (λ t. omega (arith, h t)) b s
        (ABlock other ∷ ABlock taken ∷ vs)

    pub scope_reads : {ts rest : List Token} {x : Statements} {w : Var} {e : Expression} (r : IsScope ts rest x w e)
        (d l n : ℕ) → (IsTrue strict → BlockFits (suc d) (suc l) x) → (IsTrue strict → n + nodes e ≤ MOST_NODES)
        → (IsTrue strict → index_depth e ≤ MOST_INDEX_DEPTH) → (IsTrue strict → scope_parens r ≤ MOST_PARENS)
        → Below 10 rest → (s : List Part) (vs : List ParsedValue)
        → scan strict end ts n (Scope d l ∷ s) vs ≡ scan strict end rest (n + nodes e) s
        (AnExpr e ∷ AVar w ∷ ABlock x ∷ vs)
    scope_reads (scope {a} {b = b1} {ts} {us} {vs = ws} {rest} {body} {w} {e} r v x) d l n f g h k b s vs =
        run_scope strict end ts n d l s vs
        ∙ block_reads r (suc d) (suc l) n f (λ t. omega (arith, k t)) (refl, λ j m. refl) refl (scope_end n s) vs
        ∙ read_word a word.Delocal us 0 (Kind ∷ var_parts (ASign sign.Equal ∷ Count n ∷ Level 9 0 0 ∷ s))
        (ABlock body ∷ vs)
        ∙ var_reads v 0 (ASign sign.Equal ∷ Count n ∷ Level 9 0 0 ∷ s) (ABlock body ∷ vs)
        ∙ read_sign b1 sign.Equal ws 0 (Count n ∷ Level 9 0 0 ∷ s) (AVar w ∷ ABlock body ∷ vs)
        ∙ run_count strict end ws 0 n (Level 9 0 0 ∷ s) (AVar w ∷ ABlock body ∷ vs)
        ∙ value_reads x 0 0 n (λ t. omega (arith, k t)) g (λ t. omega (arith, h t)) b s (AVar w ∷ ABlock body ∷ vs)

    pub block_reads : {ts rest : List Token} {x : Statements} (r : IsBlock ts rest x) (d l n : ℕ)
        → (IsTrue strict → BlockFits d l x) → (IsTrue strict → block_parens r ≤ MOST_PARENS) → Below 10 rest
        → here starts rest ≡ false → (s : List Part) (vs : List ParsedValue)
        → scan strict end ts n (Block d l ∷ s) vs ≡ scan strict end rest 0 s (ABlock x ∷ vs)
    block_reads (block {ts} {mid} {rest} {x} {xs} r rs) d l n f g b o s vs =
        run_block strict end ts n d l s vs
        ∙ single_reads r d l n (λ t. fits_first (f t)) (λ t. omega (arith, g t)) (below_statements rs b)
        (Build AddStatement ∷ Stmts d l ∷ Build MakeBlock ∷ s) (Many [] ∷ vs)
        ∙ run_build strict end mid 0 AddStatement (Stmts d l ∷ Build MakeBlock ∷ s) (AStatement x ∷ Many [] ∷ vs)
        ∙ statements_read rs d l (λ t. fits_rest (f t)) (λ t. omega (arith, g t)) b o (Build MakeBlock ∷ s) (x ∷ []) vs
        ∙ run_build strict end rest 0 MakeBlock s (Many (x ∷ xs) ∷ vs)

    pub statements_read : {ts rest : List Token} {xs : List Statement} (rs : IsStatements ts rest xs) (d l : ℕ)
        → (IsTrue strict → BlockFits d l (statements_of xs)) → (IsTrue strict → list_parens rs ≤ MOST_PARENS)
        → Below 10 rest → here starts rest ≡ false → (s : List Part) (ys : List Statement) (vs : List ParsedValue)
        → scan strict end ts 0 (Stmts d l ∷ s) (Many ys ∷ vs) ≡ scan strict end rest 0 s (Many (ys ++ xs) ∷ vs)
    statements_read (finish {rest}) d l f g b o s ys vs = run_stmts_end strict end rest 0 d l s (Many ys ∷ vs) o
        ∙ ap (λ m. scan strict end rest 0 s (Many m ∷ vs)) (sym (append-nil ys))
    statements_read (then {ts} {mid} {rest} {x} {xs} r rs) d l f g b o s ys vs =
        run_stmts strict end ts 0 d l s (Many ys ∷ vs) (statement_begins r).0
        ∙ single_reads r d l 0 (λ t. fits_first (f t)) (λ t. omega (arith, g t)) (below_statements rs b)
        (Build AddStatement ∷ Stmts d l ∷ s) (Many ys ∷ vs)
        ∙ run_build strict end mid 0 AddStatement (Stmts d l ∷ s) (AStatement x ∷ Many ys ∷ vs)
        ∙ statements_read rs d l (λ t. fits_rest (f t)) (λ t. omega (arith, g t)) b o s (ys ++ x ∷ []) vs
        ∙ ap (λ m. scan strict end rest 0 s (Many m ∷ vs)) (append_assoc ys (x ∷ []) xs)

  -- ---- classes

  pub method_reads : {ts rest : List Token} {x : Procedure} (r : IsMethod ts rest x) → (IsTrue strict → IsSmallMethod x)
      → (IsTrue strict → method_parens r ≤ MOST_PARENS) → Below 10 rest → here starts rest ≡ false
      → (s : List Part) (xs : List Procedure) (vs : List ParsedValue)
      → scan strict end ts 0 (AWord word.Method ∷ method_parts s) (Methods xs ∷ vs)
      ≡ scan strict end rest 0 s (Methods (xs ++ x ∷ []) ∷ vs)
  method_reads (method {a} {b = b1} {c} {name} {ts} {us} {rest} {ps} {body} p r) f g b o s xs vs =
      read_word a word.Method (tok b1 (Name name) ∷ tok c (Sign sign.LeftParen) ∷ ts) 0 (method_parts s)
      (Methods xs ∷ vs)
      ∙ read_name b1 name (tok c (Sign sign.LeftParen) ∷ ts) 0
      (ASign sign.LeftParen ∷ Params ∷ Block 0 0 ∷ Build MakeMethod ∷ s) (Methods xs ∷ vs)
      ∙ read_sign c sign.LeftParen ts 0 (Params ∷ Block 0 0 ∷ Build MakeMethod ∷ s)
      (AnIdent (ident b1 name) ∷ Methods xs ∷ vs)
      ∙ params_read p 0 (λ t. (f t).parameters) (Block 0 0 ∷ Build MakeMethod ∷ s)
      (AnIdent (ident b1 name) ∷ Methods xs ∷ vs)
      ∙ block_reads r 0 0 0 (λ t. method_body (f t)) g b o (Build MakeMethod ∷ s)
      (Vars ps ∷ AnIdent (ident b1 name) ∷ Methods xs ∷ vs)
      ∙ run_build strict end rest 0 MakeMethod s (ABlock body ∷ Vars ps ∷ AnIdent (ident b1 name) ∷ Methods xs ∷ vs)

  pub var_begins : {ts rest : List Token} {v : Var} → IsVar ts rest v → here types ts ≡ true
  var_begins (var (ints x)) = refl
  var_begins (var (objects x)) = refl

  pub fields_read : {ts rest : List Token} {xs : List Var} (r : IsFields ts rest xs) → here types rest ≡ false
      → (s : List Part) (ys : List Var) (vs : List ParsedValue) → scan strict end ts 0 (Fields ∷ s) (Vars ys ∷ vs)
      ≡ scan strict end rest 0 s (Vars (ys ++ xs) ∷ vs)
  fields_read (no_field {rest}) b s ys vs = run_fields_end strict end rest 0 s (Vars ys ∷ vs) b
      ∙ ap (λ m. scan strict end rest 0 s (Vars m ∷ vs)) (sym (append-nil ys))
  fields_read (field {ts} {mid} {rest} {v} {xs} x r) b s ys vs =
      run_fields strict end ts 0 s (Vars ys ∷ vs) (var_begins x)
      ∙ var_reads x 0 (Build AddVar ∷ Fields ∷ s) (Vars ys ∷ vs)
      ∙ run_build strict end mid 0 AddVar (Fields ∷ s) (AVar v ∷ Vars ys ∷ vs)
      ∙ fields_read r b s (ys ++ v ∷ []) vs
      ∙ ap (λ m. scan strict end rest 0 s (Vars m ∷ vs)) (append_assoc ys (v ∷ []) xs)

  pub parent_reads : {ts rest : List Token} {p : Option Ident} (r : IsParent ts rest p)
      → here (is_word word.Inherits) rest ≡ false → (s : List Part) (vs : List ParsedValue)
      → scan strict end ts 0 (Parent ∷ s) vs ≡ scan strict end rest 0 s (AParent p ∷ vs)
  parent_reads (alone {rest}) b s vs = run_parent_end strict end rest 0 s vs b
  parent_reads (inherits {a} {b = b1} {name} {rest}) b s vs =
      run_parent strict end (tok a (Word word.Inherits) ∷ tok b1 (Name name) ∷ rest) 0 s vs refl
      ∙ read_word a word.Inherits (tok b1 (Name name) ∷ rest) 0 (AName ∷ Build MakeParent ∷ s) vs
      ∙ read_name b1 name rest 0 (Build MakeParent ∷ s) vs
      ∙ run_build strict end rest 0 MakeParent s (AnIdent (ident b1 name) ∷ vs)

  -- what a method or a class begins with, or the end
  abbrev pub Closed : List Token → Type 0
  Closed ts = (here types ts ≡ false) × (here (is_word word.Inherits) ts ≡ false) × (here starts ts ≡ false)
      × Below 10 ts

  pub closed_methods : {ts rest : List Token} {xs : List Procedure} → IsMethods ts rest xs → Closed rest → Closed ts
  closed_methods no_method c = c
  closed_methods (methods (method p b) r) c = (refl, refl, refl, (refl, λ j l. refl))

  pub closed_classes : {ts rest : List Token} {xs : List ClassText} → IsClasses ts rest xs → Closed rest → Closed ts
  closed_classes no_class c = c
  closed_classes (classes (class p f m) r) c = (refl, refl, refl, (refl, λ j l. refl))

  pub other_classes : {ts rest : List Token} {xs : List ClassText} → IsClasses ts rest xs
      → here (is_word word.Method) rest ≡ false → here (is_word word.Method) ts ≡ false
  other_classes no_class h = h
  other_classes (classes (class p f m) r) h = refl

  pub no_parent : {ts rest : List Token} {xs : List Var} → IsFields ts rest xs
      → here (is_word word.Inherits) rest ≡ false → here (is_word word.Inherits) ts ≡ false
  no_parent no_field h = h
  no_parent (field (var (ints x)) r) h = refl
  no_parent (field (var (objects x)) r) h = refl

  pub methods_read : {ts rest : List Token} {xs : List Procedure} (r : IsMethods ts rest xs)
      → (IsTrue strict → All IsSmallMethod xs) → (IsTrue strict → methods_parens r ≤ MOST_PARENS) → Closed rest
      → here (is_word word.Method) rest ≡ false → (s : List Part) (ys : List Procedure) (vs : List ParsedValue)
      → scan strict end ts 0 (Procedures ∷ s) (Methods ys ∷ vs) ≡ scan strict end rest 0 s (Methods (ys ++ xs) ∷ vs)
  methods_read (no_method {rest}) f g c b s ys vs = run_procedures_end strict end rest 0 s (Methods ys ∷ vs) b
      ∙ ap (λ m. scan strict end rest 0 s (Methods m ∷ vs)) (sym (append-nil ys))
  methods_read (methods {ts} {mid} {rest} {x} {xs} r rs) f g c b s ys vs =
      let k = closed_methods rs c in
      run_procedures strict end ts 0 s (Methods ys ∷ vs) (method_begins r)
      ∙ method_reads r (λ t. All-head IsSmallMethod x xs (f t)) (λ t. omega (arith, g t)) k.3 k.2 (Procedures ∷ s) ys vs
      ∙ methods_read rs (λ t. All-tail IsSmallMethod x xs (f t)) (λ t. omega (arith, g t)) c b s (ys ++ x ∷ []) vs
      ∙ ap (λ m. scan strict end rest 0 s (Methods m ∷ vs)) (append_assoc ys (x ∷ []) xs)

  pub begin_class : (a : Span) (ts : List Token) (c : ℕ) → (IsTrue strict → c < MOST_CLASSES)
      → (s : List Part) (vs : List ParsedValue) → scan strict end (tok a (Word word.Class) ∷ ts) 0 (Program c ∷ s) vs
      ≡ scan strict end ts 0 (class_parts (Program (suc c) ∷ s)) vs
  unfolding scan walk
  begin_class a ts c h s vs = stops strict a.at (here (is_sign sign.LeftBracket) ts) (class_mark c)
      (scan strict end ts 0 (class_parts (Program (suc c) ∷ s)) vs) (λ t. class_room c _ (h t))

  pub class_reads : {ts rest : List Token} {x : ClassText} (r : IsClass ts rest x) (c : ℕ)
      → (IsTrue strict → c < MOST_CLASSES) → (IsTrue strict → All IsSmallMethod x.methods)
      → (IsTrue strict → class_parens r ≤ MOST_PARENS) → Closed rest → here (is_word word.Method) rest ≡ false
      → (s : List Part) (xs : List ClassText) (vs : List ParsedValue)
      → scan strict end ts 0 (Program c ∷ s) (Classes xs ∷ vs)
      ≡ scan strict end rest 0 (Program (suc c) ∷ s) (Classes (xs ++ x ∷ []) ∷ vs)
  class_reads (class {a} {b = b1} {name} {ts} {us} {vs = ws} {rest} {p} {fs} {ms} r1 r2 r3) c h f g k b s xs vs =
      let m = closed_methods r3 k in
      let tail = Program (suc c) ∷ s in
      let below = AnIdent (ident b1 name) ∷ Classes xs ∷ vs in
      begin_class a (tok b1 (Name name) ∷ ts) c h s (Classes xs ∷ vs)
      ∙ read_name b1 name ts 0 (Parent ∷ Build NoVars ∷ Fields ∷ Build NoMethods ∷ Procedures ∷ Build MakeClass ∷ tail)
      (Classes xs ∷ vs)
      ∙ parent_reads r1 (no_parent r2 m.1) (Build NoVars ∷ Fields ∷ Build NoMethods ∷ Procedures ∷ Build MakeClass
      ∷ tail) below
      ∙ run_build strict end us 0 NoVars (Fields ∷ Build NoMethods ∷ Procedures ∷ Build MakeClass ∷ tail)
      (AParent p ∷ below)
      ∙ fields_read r2 m.0 (Build NoMethods ∷ Procedures ∷ Build MakeClass ∷ tail) [] (AParent p ∷ below)
      ∙ run_build strict end ws 0 NoMethods (Procedures ∷ Build MakeClass ∷ tail) (Vars fs ∷ AParent p ∷ below)
      ∙ methods_read r3 f g k b (Build MakeClass ∷ tail) [] (Vars fs ∷ AParent p ∷ below)
      ∙ run_build strict end rest 0 MakeClass tail (Methods ms ∷ Vars fs ∷ AParent p ∷ below)

  pub classes_read : {ts rest : List Token} {xs : List ClassText} (r : IsClasses ts rest xs) (c : ℕ)
      → (IsTrue strict → c + length xs ≤ MOST_CLASSES) → (IsTrue strict
      → All (λ text. All IsSmallMethod text.methods) xs) → (IsTrue strict → classes_parens r ≤ MOST_PARENS)
      → Closed rest → here (is_word word.Method) rest ≡ false → here (is_word word.Class) rest ≡ false
      → (s : List Part) (ys : List ClassText) (vs : List ParsedValue)
      → scan strict end ts 0 (Program c ∷ s) (Classes ys ∷ vs) ≡ scan strict end rest 0 s (Classes (ys ++ xs) ∷ vs)
  classes_read (no_class {rest}) c h f g k b o s ys vs = run_program_end strict end rest 0 c s (Classes ys ∷ vs) o
      ∙ ap (λ m. scan strict end rest 0 s (Classes m ∷ vs)) (sym (append-nil ys))
  classes_read (classes {ts} {mid} {rest} {x} {xs} r rs) c h f g k b o s ys vs =
      class_reads r c (λ t. omega (arith, h t)) (λ t. All-head (λ text. All IsSmallMethod text.methods) x xs (f t))
      (λ t. omega (arith, g t)) (closed_classes rs k) (other_classes rs b) s ys vs
      ∙ classes_read rs (suc c) (λ t. omega (arith, h t)) (λ t. All-tail (λ text. All IsSmallMethod text.methods) x xs
      (f t)) (λ t. omega (arith, g t)) k b o s (ys ++ x ∷ []) vs
      ∙ ap (λ m. scan strict end rest 0 s (Classes m ∷ vs)) (append_assoc ys (x ∷ []) xs)
