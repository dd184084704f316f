-- How reading goes on over what takes no token.
use Rattle.std.specs.Prelude.{◌≡◌, ℕ, suc, pred, ◌-◌, ◌<◌, ◌≤◌, Bool, true, false, cond, List, [], ◌∷◌, Result, Ok, Err}
use Rattle.std.specs.Prelude.{Option, Some, None, Box, refl}
use Rattle.std.specs.declared.alloc.Global.{Global}
use Rattle.std.proofs.Common.{sym, ◌∙◌, zero, ap, arith, lt-ltb, le-ltb}
use Rattle.roopl_lexer.specs.rpp_tree.declared.limits.LimitKind.TheVariants as limit
use Rattle.roopl_lexer.specs.rpp_tree.declared.limits.TheConstants.{MOST_CLASSES}
use Rattle.roopl_lexer.specs.rpp_tree.declared.tree.Ident.{Ident}
use Rattle.roopl_lexer.specs.rpp_tree.declared.tree.Expr.{back-Place-index}
use Rattle.roopl_lexer.specs.rpp_tree.declared.tree.Expr.{Expr}
use Rattle.roopl_lexer.specs.rpp_tree.Views.{lvalue_with, read_of}
use Rattle.roopl_lexer.specs.declared.token.Token.{Token}
use Rattle.roopl_lexer.specs.declared.token.TokenKind.{TokenKind}
use Rattle.roopl_lexer.specs.declared.token.TokenKind.TheVariants as token
use Rattle.roopl_lexer.specs.declared.token.Keyword.{Keyword}
use Rattle.roopl_lexer.specs.declared.token.Keyword.TheVariants as word
use Rattle.roopl_lexer.specs.declared.token.Symbol.TheVariants as sign
use Rattle.roopl_parser.specs.declared.error.ParseError.{ParseError}
use Rattle.roopl_parser.specs.declared.error.ParseError.TheVariants.{Limit}
use Rattle.roopl_parser.specs.Grammar.{lvalue_read}
use Rattle.roopl_parser.specs.Reader.{Part, ParsedValue, Rule, Step, Wrong, Next, Within, Build, Count, Level, More}
use Rattle.roopl_parser.specs.Reader.{Index}
use Rattle.roopl_parser.specs.Reader.{Spot, Kind, Brackets, Sized, Single, Block, Stmts, Branches, Scope, Parent}
use Rattle.roopl_parser.specs.Reader.{Fields, Procedures, Program, AName, AWord, AParent, Many, AddStatement, MakeBlock}
use Rattle.roopl_parser.specs.Reader.{MakeWhole, MakeObject, MakeParent, build, operand, index, brackets, sized}
use Rattle.roopl_parser.specs.Reader.{statement, starts, a_type, types, parent, procedures, program, class_mark}
use Rattle.roopl_parser.specs.Reader.{branch_parts, scope_end, field_parts, method_parts, class_parts, here, is_word}
use Rattle.roopl_parser.specs.Reader.{is_sign, led, scan, walk, ends, ReaderGives}
use Rattle.roopl_parser.specs.Viable.{offset_at}

pub read_back : (name : Ident) (index : Option (Box Expr Global))
    → read_of name (back-Place-index index) ≡ lvalue_read (lvalue_with name index)
read_back name None = refl
read_back name (Some index) = refl

pub pred_sub : (k : ℕ) → pred k ≡ k - 1
pred_sub zero = omega arith
pred_sub (suc k) = omega arith

-- what a call gives serves where reading comes to its beginning
pub gives_from : {X : Type 0} (r : Result X ParseError)
    (first before : List Part → List ParsedValue → Result ParsedValue ParseError)
    (behind : X → List Part → List ParsedValue → Result ParsedValue ParseError)
    → ((s : List Part) (vs : List ParsedValue) → first s vs ≡ before s vs) → ReaderGives r before behind
    → ReaderGives r first behind
gives_from (Ok x) first before behind same gives = λ s vs. same s vs ∙ gives s vs
gives_from (Err e) first before behind same gives = λ known s vs. same s vs ∙ gives known s vs

pub operand_level : (k p i : ℕ) (s : List Part) (n : ℕ) (vs : List ParsedValue) (at : ℕ) (kind : TokenKind)
    → operand (suc k) p i s n vs at kind ≡ operand k p i (More (suc k) p i ∷ s) n vs at kind
operand_level k p i s n vs at (token.Name x) = refl
operand_level k p i s n vs at (token.Number w) = refl
operand_level k p i s n vs at (token.Word word.Class) = refl
operand_level k p i s n vs at (token.Word word.Inherits) = refl
operand_level k p i s n vs at (token.Word word.Method) = refl
operand_level k p i s n vs at (token.Word word.Int) = refl
operand_level k p i s n vs at (token.Word word.Nil) = refl
operand_level k p i s n vs at (token.Word word.Skip) = refl
operand_level k p i s n vs at (token.Word word.If) = refl
operand_level k p i s n vs at (token.Word word.Then) = refl
operand_level k p i s n vs at (token.Word word.Else) = refl
operand_level k p i s n vs at (token.Word word.Fi) = refl
operand_level k p i s n vs at (token.Word word.From) = refl
operand_level k p i s n vs at (token.Word word.Do) = refl
operand_level k p i s n vs at (token.Word word.Loop) = refl
operand_level k p i s n vs at (token.Word word.Until) = refl
operand_level k p i s n vs at (token.Word word.Local) = refl
operand_level k p i s n vs at (token.Word word.Delocal) = refl
operand_level k p i s n vs at (token.Word word.Construct) = refl
operand_level k p i s n vs at (token.Word word.Destruct) = refl
operand_level k p i s n vs at (token.Word word.New) = refl
operand_level k p i s n vs at (token.Word word.Delete) = refl
operand_level k p i s n vs at (token.Word word.Copy) = refl
operand_level k p i s n vs at (token.Word word.Uncopy) = refl
operand_level k p i s n vs at (token.Word word.Call) = refl
operand_level k p i s n vs at (token.Word word.Uncall) = refl
operand_level k p i s n vs at (token.Sign sign.AddTo) = refl
operand_level k p i s n vs at (token.Sign sign.SubFrom) = refl
operand_level k p i s n vs at (token.Sign sign.XorInto) = refl
operand_level k p i s n vs at (token.Sign sign.Swap) = refl
operand_level k p i s n vs at (token.Sign sign.Plus) = refl
operand_level k p i s n vs at (token.Sign sign.Minus) = refl
operand_level k p i s n vs at (token.Sign sign.Caret) = refl
operand_level k p i s n vs at (token.Sign sign.Amp) = refl
operand_level k p i s n vs at (token.Sign sign.Bar) = refl
operand_level k p i s n vs at (token.Sign sign.AmpAmp) = refl
operand_level k p i s n vs at (token.Sign sign.BarBar) = refl
operand_level k p i s n vs at (token.Sign sign.Less) = refl
operand_level k p i s n vs at (token.Sign sign.Greater) = refl
operand_level k p i s n vs at (token.Sign sign.AtMost) = refl
operand_level k p i s n vs at (token.Sign sign.AtLeast) = refl
operand_level k p i s n vs at (token.Sign sign.Equal) = refl
operand_level k p i s n vs at (token.Sign sign.NotEqual) = refl
operand_level k p i s n vs at (token.Sign sign.Star) = refl
operand_level k p i s n vs at (token.Sign sign.Slash) = refl
operand_level k p i s n vs at (token.Sign sign.Percent) = refl
operand_level k p i s n vs at (token.Sign sign.LeftParen) = refl
operand_level k p i s n vs at (token.Sign sign.RightParen) = refl
operand_level k p i s n vs at (token.Sign sign.LeftBracket) = refl
operand_level k p i s n vs at (token.Sign sign.RightBracket) = refl
operand_level k p i s n vs at (token.Sign sign.Comma) = refl
operand_level k p i s n vs at (token.Sign sign.DoubleColon) = refl

pub statement_is : (d l : ℕ) (s : List Part) (vs : List ParsedValue) (at : ℕ) (other : Step) (kind : TokenKind)
    → starts kind ≡ true → statement d l s vs at other kind ≡ statement d l s vs at Wrong kind
statement_is d l s vs at other (token.Name x) h = refl
statement_is d l s vs at other (token.Word word.If) h = refl
statement_is d l s vs at other (token.Word word.From) h = refl
statement_is d l s vs at other (token.Word word.Construct) h = refl
statement_is d l s vs at other (token.Word word.Local) h = refl
statement_is d l s vs at other (token.Word word.New) h = refl
statement_is d l s vs at other (token.Word word.Delete) h = refl
statement_is d l s vs at other (token.Word word.Copy) h = refl
statement_is d l s vs at other (token.Word word.Uncopy) h = refl
statement_is d l s vs at other (token.Word word.Call) h = refl
statement_is d l s vs at other (token.Word word.Uncall) h = refl
statement_is d l s vs at other (token.Word word.Skip) h = refl
statement_is d l s vs at other _ h = cc

pub statement_not : (d l : ℕ) (s : List Part) (vs : List ParsedValue) (at : ℕ) (other : Step) (kind : TokenKind)
    → starts kind ≡ false → statement d l s vs at other kind ≡ other
statement_not d l s vs at other (token.Name x) h = cc
statement_not d l s vs at other (token.Word word.If) h = cc
statement_not d l s vs at other (token.Word word.From) h = cc
statement_not d l s vs at other (token.Word word.Construct) h = cc
statement_not d l s vs at other (token.Word word.Local) h = cc
statement_not d l s vs at other (token.Word word.New) h = cc
statement_not d l s vs at other (token.Word word.Delete) h = cc
statement_not d l s vs at other (token.Word word.Copy) h = cc
statement_not d l s vs at other (token.Word word.Uncopy) h = cc
statement_not d l s vs at other (token.Word word.Call) h = cc
statement_not d l s vs at other (token.Word word.Uncall) h = cc
statement_not d l s vs at other (token.Word word.Skip) h = cc
statement_not d l s vs at other _ h = refl

pub type_is : (s : List Part) (n : ℕ) (vs : List ParsedValue) (at : ℕ) (mark : _) (other : Step) (kind : TokenKind)
    → types kind ≡ true → a_type s n vs at mark other kind ≡ a_type s n vs at mark Wrong kind
type_is s n vs at mark other (token.Name x) h = refl
type_is s n vs at mark other (token.Word word.Int) h = refl
type_is s n vs at mark other _ h = cc

pub type_not : (s : List Part) (n : ℕ) (vs : List ParsedValue) (at : ℕ) (mark : _) (other : Step) (kind : TokenKind)
    → types kind ≡ false → a_type s n vs at mark other kind ≡ other
type_not s n vs at mark other (token.Name x) h = cc
type_not s n vs at mark other (token.Word word.Int) h = cc
type_not s n vs at mark other _ h = refl

pub index_not : (p i : ℕ) (s : List Part) (n : ℕ) (vs : List ParsedValue) (step : Step) (kind : TokenKind)
    → is_sign sign.LeftBracket kind ≡ false → index p i s n vs step kind ≡ step
index_not p i s n vs step (token.Sign sign.LeftBracket) h = cc
index_not p i s n vs step _ h = refl

pub brackets_not : (s : List Part) (n : ℕ) (vs : List ParsedValue) (step : Step) (kind : TokenKind)
    → is_sign sign.LeftBracket kind ≡ false → brackets s n vs step kind ≡ step
brackets_not s n vs step (token.Sign sign.LeftBracket) h = cc
brackets_not s n vs step _ h = refl

pub sized_not : (s : List Part) (n : ℕ) (vs : List ParsedValue) (step : Step) (kind : TokenKind)
    → is_sign sign.LeftBracket kind ≡ false → sized s n vs step kind ≡ step
sized_not s n vs step (token.Sign sign.LeftBracket) h = cc
sized_not s n vs step _ h = refl

parent_is : (s : List Part) (n : ℕ) (vs : List ParsedValue) (step : Step) (kind : TokenKind)
    → is_word word.Inherits kind ≡ true → parent s n vs step kind
    ≡ cond (is_word word.Inherits kind) (Next Within n (AName ∷ Build MakeParent ∷ s) vs) Wrong
parent_is s n vs step (token.Word word.Inherits) h = refl
parent_is s n vs step _ h = cc

pub parent_not : (s : List Part) (n : ℕ) (vs : List ParsedValue) (step : Step) (kind : TokenKind)
    → is_word word.Inherits kind ≡ false → parent s n vs step kind ≡ step
parent_not s n vs step (token.Word word.Inherits) h = cc
parent_not s n vs step _ h = refl

method_is : (s : List Part) (n : ℕ) (vs : List ParsedValue) (step : Step) (kind : TokenKind)
    → is_word word.Method kind ≡ true
    → procedures s n vs step kind ≡ cond (is_word word.Method kind) (Next Within n (method_parts (Procedures ∷ s)) vs)
    Wrong
method_is s n vs step (token.Word word.Method) h = refl
method_is s n vs step _ h = cc

pub method_not : (s : List Part) (n : ℕ) (vs : List ParsedValue) (step : Step) (kind : TokenKind)
    → is_word word.Method kind ≡ false → procedures s n vs step kind ≡ step
method_not s n vs step (token.Word word.Method) h = cc
method_not s n vs step _ h = refl

class_is : (c : ℕ) (s : List Part) (n : ℕ) (vs : List ParsedValue) (step : Step) (kind : TokenKind)
    → is_word word.Class kind ≡ true → program c s n vs step kind
    ≡ Next (class_mark c) n (class_parts (Program (suc c) ∷ s)) vs
class_is c s n vs step (token.Word word.Class) h = refl
class_is c s n vs step _ h = cc

pub class_not : (c : ℕ) (s : List Part) (n : ℕ) (vs : List ParsedValue) (step : Step) (kind : TokenKind)
    → is_word word.Class kind ≡ false → program c s n vs step kind ≡ step
class_not c s n vs step (token.Word word.Class) h = cc
class_not c s n vs step _ h = refl

module _ (strict : Bool) (end : ℕ) where
  pub run_build : (ts : List Token) (n : ℕ) (r : Rule) (s : List Part) (vs : List ParsedValue)
      → scan strict end ts n (Build r ∷ s) vs ≡ scan strict end ts n (s) (build r vs)
  unfolding scan walk ends
  run_build [] n r s vs = refl
  run_build (t ∷ ts) n r s vs = refl

  pub run_count : (ts : List Token) (n : ℕ) (m : ℕ) (s : List Part) (vs : List ParsedValue)
      → scan strict end ts n (Count m ∷ s) vs ≡ scan strict end ts m (s) vs
  unfolding scan walk ends
  run_count [] n m s vs = refl
  run_count (t ∷ ts) n m s vs = refl

  pub run_level_suc : (ts : List Token) (n : ℕ) (k p i : ℕ) (s : List Part) (vs : List ParsedValue)
      → scan strict end ts n (Level (suc k) p i ∷ s) vs ≡ scan strict end ts n (Level k p i ∷ More (suc k) p i ∷ s) vs
  unfolding scan walk ends
  run_level_suc [] n k p i s vs = refl
  run_level_suc (t ∷ ts) n k p i s vs = ap (led strict t.at (here (is_sign sign.LeftBracket) ts) (scan strict end ts))
      (operand_level k p i s n vs t.at t.kind)

  -- an expression of a level is one of the level below, and then operators of this level
  pub run_level : (ts : List Token) (n k p i : ℕ) (s : List Part) (vs : List ParsedValue) → 0 < k
      → scan strict end ts n (Level k p i ∷ s) vs ≡ scan strict end ts n (Level (k - 1) p i ∷ More k p i ∷ s) vs
  run_level ts n zero p i s vs h = absurd (omega (arith, h))
  run_level ts n (suc k) p i s vs h =
      let e : suc k - 1 ≡ k = omega arith in
      run_level_suc ts n k p i s vs ∙ sym (ap (λ m. scan strict end ts n (Level m p i ∷ More (suc k) p i ∷ s) vs) e)

  pub run_spot : (ts : List Token) (n : ℕ) (s : List Part) (vs : List ParsedValue)
      → scan strict end ts n (Spot ∷ s) vs ≡ scan strict end ts n (AName ∷ Index 0 0 ∷ s) vs
  unfolding scan walk ends
  run_spot [] n s vs = refl
  run_spot (t ∷ ts) n s vs = refl

  pub run_index_end : (ts : List Token) (n : ℕ) (p i : ℕ) (s : List Part) (vs : List ParsedValue)
      → here (is_sign sign.LeftBracket) ts ≡ false → scan strict end ts n (Index p i ∷ s) vs
      ≡ scan strict end ts n (s) (build MakeWhole vs)
  unfolding scan walk ends
  run_index_end [] n p i s vs h = refl
  run_index_end (t ∷ ts) n p i s vs h = ap (led strict t.at (here (is_sign sign.LeftBracket) ts) (scan strict end ts))
      (index_not p i s n vs (walk s n (build MakeWhole vs) t) t.kind h)

  pub run_brackets_end : (ts : List Token) (n : ℕ) (s : List Part) (vs : List ParsedValue)
      → here (is_sign sign.LeftBracket) ts ≡ false → scan strict end ts n (Brackets ∷ s) vs
      ≡ scan strict end ts n (s) vs
  unfolding scan walk ends
  run_brackets_end [] n s vs h = refl
  run_brackets_end (t ∷ ts) n s vs h = ap (led strict t.at (here (is_sign sign.LeftBracket) ts) (scan strict end ts))
      (brackets_not s n vs (walk s n vs t) t.kind h)

  pub run_sized_end : (ts : List Token) (n : ℕ) (s : List Part) (vs : List ParsedValue)
      → here (is_sign sign.LeftBracket) ts ≡ false → scan strict end ts n (Sized ∷ s) vs
      ≡ scan strict end ts n (s) (build MakeObject vs)
  unfolding scan walk ends
  run_sized_end [] n s vs h = refl
  run_sized_end (t ∷ ts) n s vs h = ap (led strict t.at (here (is_sign sign.LeftBracket) ts) (scan strict end ts))
      (sized_not s n vs (walk s n (build MakeObject vs) t) t.kind h)

  pub run_block : (ts : List Token) (n : ℕ) (d l : ℕ) (s : List Part) (vs : List ParsedValue)
      → scan strict end ts n (Block d l ∷ s) vs ≡ scan strict end ts n
      (Single d l ∷ Build AddStatement ∷ Stmts d l ∷ Build MakeBlock ∷ s) (Many [] ∷ vs)
  unfolding scan walk ends
  run_block [] n d l s vs = refl
  run_block (t ∷ ts) n d l s vs = refl

  pub run_stmts : (ts : List Token) (n : ℕ) (d l : ℕ) (s : List Part) (vs : List ParsedValue) → here starts ts ≡ true
      → scan strict end ts n (Stmts d l ∷ s) vs ≡ scan strict end ts n (Single d l ∷ Build AddStatement ∷ Stmts d l ∷ s)
      vs
  unfolding scan walk ends
  run_stmts [] n d l s vs h = cc
  run_stmts (t ∷ ts) n d l s vs h = ap (led strict t.at (here (is_sign sign.LeftBracket) ts) (scan strict end ts))
      (statement_is d l (Build AddStatement ∷ Stmts d l ∷ s) vs t.at (walk s n vs t) t.kind h)

  pub run_stmts_end : (ts : List Token) (n : ℕ) (d l : ℕ) (s : List Part) (vs : List ParsedValue)
      → here starts ts ≡ false
      → scan strict end ts n (Stmts d l ∷ s) vs ≡ scan strict end ts n (s) vs
  unfolding scan walk ends
  run_stmts_end [] n d l s vs h = refl
  run_stmts_end (t ∷ ts) n d l s vs h = ap (led strict t.at (here (is_sign sign.LeftBracket) ts) (scan strict end ts))
      (statement_not d l (Build AddStatement ∷ Stmts d l ∷ s) vs t.at (walk s n vs t) t.kind h)

  pub run_branches : (ts : List Token) (n : ℕ) (first second third : Keyword) (d l : ℕ) (s : List Part)
      (vs : List ParsedValue) → scan strict end ts n (Branches first second third d l ∷ s) vs
      ≡ scan strict end ts n (AWord first ∷ branch_parts second third d l n s) vs
  unfolding scan walk ends
  run_branches [] n first second third d l s vs = refl
  run_branches (t ∷ ts) n first second third d l s vs = refl

  pub run_scope : (ts : List Token) (n : ℕ) (d l : ℕ) (s : List Part) (vs : List ParsedValue)
      → scan strict end ts n (Scope d l ∷ s) vs ≡ scan strict end ts n (Block (suc d) (suc l) ∷ scope_end n s) vs
  unfolding scan walk ends
  run_scope [] n d l s vs = refl
  run_scope (t ∷ ts) n d l s vs = refl

  pub run_fields : (ts : List Token) (n : ℕ) (s : List Part) (vs : List ParsedValue) → here types ts ≡ true
      → scan strict end ts n (Fields ∷ s) vs ≡ scan strict end ts n (Kind ∷ field_parts (Fields ∷ s)) vs
  unfolding scan walk ends
  run_fields [] n s vs h = cc
  run_fields (t ∷ ts) n s vs h = ap (led strict t.at (here (is_sign sign.LeftBracket) ts) (scan strict end ts))
      (type_is (field_parts (Fields ∷ s)) n vs t.at Within (walk s n vs t) t.kind h)

  pub run_fields_end : (ts : List Token) (n : ℕ) (s : List Part) (vs : List ParsedValue) → here types ts ≡ false
      → scan strict end ts n (Fields ∷ s) vs ≡ scan strict end ts n (s) vs
  unfolding scan walk ends
  run_fields_end [] n s vs h = refl
  run_fields_end (t ∷ ts) n s vs h = ap (led strict t.at (here (is_sign sign.LeftBracket) ts) (scan strict end ts))
      (type_not (field_parts (Fields ∷ s)) n vs t.at Within (walk s n vs t) t.kind h)

  pub run_parent : (ts : List Token) (n : ℕ) (s : List Part) (vs : List ParsedValue)
      → here (is_word word.Inherits) ts ≡ true
      → scan strict end ts n (Parent ∷ s) vs ≡ scan strict end ts n (AWord word.Inherits ∷ AName ∷ Build MakeParent ∷ s)
      vs
  unfolding scan walk ends
  run_parent [] n s vs h = cc
  run_parent (t ∷ ts) n s vs h = ap (led strict t.at (here (is_sign sign.LeftBracket) ts) (scan strict end ts))
      (parent_is s n vs (walk s n (AParent None ∷ vs) t) t.kind h)

  pub run_parent_end : (ts : List Token) (n : ℕ) (s : List Part) (vs : List ParsedValue)
      → here (is_word word.Inherits) ts ≡ false → scan strict end ts n (Parent ∷ s) vs
      ≡ scan strict end ts n (s) (AParent None ∷ vs)
  unfolding scan walk ends
  run_parent_end [] n s vs h = refl
  run_parent_end (t ∷ ts) n s vs h = ap (led strict t.at (here (is_sign sign.LeftBracket) ts) (scan strict end ts))
      (parent_not s n vs (walk s n (AParent None ∷ vs) t) t.kind h)

  pub run_procedures : (ts : List Token) (n : ℕ) (s : List Part) (vs : List ParsedValue)
      → here (is_word word.Method) ts ≡ true → scan strict end ts n (Procedures ∷ s) vs
      ≡ scan strict end ts n (AWord word.Method ∷ method_parts (Procedures ∷ s)) vs
  unfolding scan walk ends
  run_procedures [] n s vs h = cc
  run_procedures (t ∷ ts) n s vs h = ap (led strict t.at (here (is_sign sign.LeftBracket) ts) (scan strict end ts))
      (method_is s n vs (walk s n vs t) t.kind h)

  pub run_procedures_end : (ts : List Token) (n : ℕ) (s : List Part) (vs : List ParsedValue)
      → here (is_word word.Method) ts ≡ false → scan strict end ts n (Procedures ∷ s) vs ≡ scan strict end ts n (s) vs
  unfolding scan walk ends
  run_procedures_end [] n s vs h = refl
  run_procedures_end (t ∷ ts) n s vs h = ap (led strict t.at (here (is_sign sign.LeftBracket) ts) (scan strict end ts))
      (method_not s n vs (walk s n vs t) t.kind h)

  pub run_program_end : (ts : List Token) (n : ℕ) (c : ℕ) (s : List Part) (vs : List ParsedValue)
      → here (is_word word.Class) ts ≡ false → scan strict end ts n (Program c ∷ s) vs ≡ scan strict end ts n (s) vs
  unfolding scan walk ends
  run_program_end [] n c s vs h = refl
  run_program_end (t ∷ ts) n c s vs h = ap (led strict t.at (here (is_sign sign.LeftBracket) ts) (scan strict end ts))
      (class_not c s n vs (walk s n vs t) t.kind h)

-- a class within the limit, and one past it
pub run_program : (end : ℕ) (ts : List Token) (n c : ℕ) (s : List Part) (vs : List ParsedValue)
    → here (is_word word.Class) ts ≡ true → c < MOST_CLASSES
    → scan true end ts n (Program c ∷ s) vs ≡ scan true end ts n (AWord word.Class ∷ class_parts (Program (suc c) ∷ s))
    vs
unfolding scan walk ends
run_program end [] n c s vs h l = cc
run_program end (t ∷ ts) n c s vs h l = rw (class_is c s n vs (walk s n vs t) t.kind h, h, lt-ltb c MOST_CLASSES l)

pub run_program_over : (end : ℕ) (ts : List Token) (n c : ℕ) (s : List Part) (vs : List ParsedValue)
    → here (is_word word.Class) ts ≡ true → MOST_CLASSES ≤ c
    → scan true end ts n (Program c ∷ s) vs ≡ Err (Limit limit.Classes (offset_at end ts))
unfolding scan walk ends
run_program_over end [] n c s vs h l = cc
run_program_over end (t ∷ ts) n c s vs h l = rw (class_is c s n vs (walk s n vs t) t.kind h, le-ltb c MOST_CLASSES l)
