-- What may come for a stack, by the grammar; and that each step keeps to it.
use Rattle.std.specs.Prelude.{◌≡◌, Ok, ℕ, suc, Bool, List, [], ◌∷◌, ◌++◌, Option, Some, None, ◌⊎◌, refl}
use Rattle.std.proofs.Common.{zero, subst, sym, inl, inr, append_assoc, ap, ◌∙◌, cond}
use Rattle.roopl_lexer.specs.rpp_tree.declared.tree.Ident.{Ident}
use Rattle.roopl_lexer.specs.rpp_tree.declared.tree.Var.{Var}
use Rattle.roopl_lexer.specs.rpp_tree.declared.tree.VarType.{VarType}
use Rattle.roopl_lexer.specs.rpp_tree.declared.tree.VarType.TheVariants as kind
use Rattle.roopl_lexer.specs.rpp_tree.declared.tree.BinOp.{BinOp}
use Rattle.roopl_lexer.specs.rpp_tree.declared.tree.BinOp.TheVariants as op
use Rattle.roopl_lexer.specs.rpp_tree.declared.tree.UpdateOp.{UpdateOp}
use Rattle.roopl_lexer.specs.rpp_tree.Tree.{Expression, Number, Null, Binary, Lvalue, Whole, Item, Creation, Object, Ints, Objects}
use Rattle.roopl_lexer.specs.rpp_tree.Tree.{Statement, Statements, Update, Swap, If, From, Construct, Local, New, Delete, Copy}
use Rattle.roopl_lexer.specs.rpp_tree.Tree.{Uncopy, Call, Skip, Procedure, ClassText}
use Rattle.roopl_lexer.specs.rpp_tree.Views.{statements_of}
use Rattle.roopl_lexer.specs.declared.token.Token.{Token}
use Rattle.roopl_lexer.specs.declared.token.TokenKind.{TokenKind}
use Rattle.roopl_lexer.specs.declared.token.TokenKind.TheVariants.{Word, Name, Sign}
use Rattle.roopl_lexer.specs.declared.token.TokenKind.TheVariants as token
use Rattle.roopl_lexer.specs.declared.token.Keyword.{Keyword}
use Rattle.roopl_lexer.specs.declared.token.Keyword.TheVariants as word
use Rattle.roopl_lexer.specs.declared.token.Symbol.{Symbol}
use Rattle.roopl_lexer.specs.declared.token.Symbol.TheVariants as sign
use Rattle.roopl_parser.specs.Operators.{Span, tok, ident, operator_at}
use Rattle.roopl_parser.specs.Operators.{update_operator}
use Rattle.roopl_parser.specs.Grammar.{lvalue_read, array_of, IsExpr, number, null, read, parens, weaker, binary}
use Rattle.roopl_parser.specs.Grammar.{IsIndexed, whole, item, IsPlace, place, IsBracketed, plain, array, IsType, ints}
use Rattle.roopl_parser.specs.Grammar.{objects, IsVar, var, IsSized, one, sized as many, IsMade, words, named}
use Rattle.roopl_parser.specs.Grammar.{IsMoreNames, close, comma, IsNames, none, some, IsTarget, own, on, IsAssigned}
use Rattle.roopl_parser.specs.Grammar.{update, swap, IsStatement, assign, conditional, repeat, construct, declare, make}
use Rattle.roopl_parser.specs.Grammar.{delete, copy, uncopy, call, uncall, skip, IsBranches, branches, IsScope, scope}
use Rattle.roopl_parser.specs.Grammar.{IsBlock, block, IsStatements, end, then, IsMoreParams, last_param, next_param}
use Rattle.roopl_parser.specs.Grammar.{IsParams, no_param, params as some_params, IsMethod, method, IsMethods}
use Rattle.roopl_parser.specs.Grammar.{no_method, methods, IsFields, no_field, field, IsParent, alone, inherits}
use Rattle.roopl_parser.specs.Grammar.{IsClass, class, IsClasses, no_class, classes}
use Rattle.roopl_parser.specs.Reader.{ParsedValue, Part, Step, Mark, Within, Wrong, Next, AnExpr, AnIdent, Idents}
use Rattle.roopl_parser.specs.Reader.{APlace}
use Rattle.roopl_parser.specs.Reader.{AType, AVar, Vars, ACreation, AStatement, Many, ABlock, AParent, Methods, Classes}
use Rattle.roopl_parser.specs.Reader.{AWord, ASign, AName, Level, More, Index, Spot, Kind, Brackets, Made, Sized}
use Rattle.roopl_parser.specs.Reader.{Single, Block, Stmts, Assign, Branches, Scope, Receiver, Args, MoreArgs, Params}
use Rattle.roopl_parser.specs.Reader.{Param, MoreParams, Count, Build, Parent, Fields, Procedures, Program, MakeWhole}
use Rattle.roopl_parser.specs.Reader.{MakeObject, MakeConstruct, MakeLocal, MakeBlock, NoMethods, MakeClass, as_expr}
use Rattle.roopl_parser.specs.Reader.{as_name, as_names, as_place, as_type, as_vars, as_many, as_methods, as_classes}
use Rattle.roopl_parser.specs.Reader.{top, under, build}
use Rattle.roopl_parser.specs.Reader.{operand, more, mores, index, name, a_type, brackets, made_read}
use Rattle.roopl_parser.specs.Reader.{sized as sized_step}
use Rattle.roopl_parser.specs.Reader.{statement, var_parts, more_statements, block_parts, scope_end, assigned, swapped}
use Rattle.roopl_parser.specs.Reader.{branch_parts, send_parts, receiver, args, more_args, field_parts, params}
use Rattle.roopl_parser.specs.Reader.{more_params, parent, procedures, program, is_word, is_sign, walk, ends}

-- the tokens are what the stack awaits, and nothing more, and give the value
abbrev pub Gen : List Part → List ParsedValue → List Token → ParsedValue → Type 0
Gen [] vs ts q = (ts ≡ []) × (q ≡ top vs)
Gen (AWord w ∷ s) vs ts q = (a : Span) × (rest : List Token) × (ts ≡ tok a (Word w) ∷ rest) × Gen s vs rest q
Gen (ASign w ∷ s) vs ts q = (a : Span) × (rest : List Token) × (ts ≡ tok a (Sign w) ∷ rest) × Gen s vs rest q
Gen (AName ∷ s) vs ts q = (a : Span) × (x : List ℕ) × (rest : List Token) × (ts ≡ tok a (Name x) ∷ rest)
    × Gen s (AnIdent (ident a x) ∷ vs) rest q
Gen (Level k p i ∷ s) vs ts q = (rest : List Token) × (e : Expression) × IsExpr k ts rest e
    × Gen s (AnExpr e ∷ vs) rest q
Gen (More k p i ∷ s) vs ts q = Gen s vs ts q ⊎ ((rest : List Token) × (e : Expression)
    × ((from : List Token) → IsExpr k from ts (as_expr (top vs)) → IsExpr k from rest e)
    × Gen s (AnExpr e ∷ under vs) rest q)
Gen (Index p i ∷ s) vs ts q = (rest : List Token) × (l : Lvalue) × IsIndexed (as_name (top vs)) ts rest l
    × Gen s (APlace l ∷ under vs) rest q
Gen (Spot ∷ s) vs ts q = (rest : List Token) × (l : Lvalue) × IsPlace ts rest l × Gen s (APlace l ∷ vs) rest q
Gen (Kind ∷ s) vs ts q = (rest : List Token) × (k : VarType) × IsType ts rest k × Gen s (AType k ∷ vs) rest q
Gen (Brackets ∷ s) vs ts q = Gen s vs ts q ⊎ ((rest : List Token) × (k : VarType)
    × IsBracketed (as_type (top vs)) ts rest k × Gen s (AType k ∷ under vs) rest q)
Gen (Made ∷ s) vs ts q = (rest : List Token) × (c : Creation) × IsMade ts rest c × Gen s (ACreation c ∷ vs) rest q
Gen (Sized ∷ s) vs ts q = (rest : List Token) × (c : Creation) × IsSized (as_name (top vs)) ts rest c
    × Gen s (ACreation c ∷ under vs) rest q
Gen (Single d l ∷ s) vs ts q = (rest : List Token) × (x : Statement) × IsStatement ts rest x
    × Gen s (AStatement x ∷ vs) rest q
Gen (Block d l ∷ s) vs ts q = (rest : List Token) × (b : Statements) × IsBlock ts rest b × Gen s (ABlock b ∷ vs) rest q
Gen (Stmts d l ∷ s) vs ts q = Gen s vs ts q ⊎ ((rest : List Token) × (xs : List Statement) × IsStatements ts rest xs
    × Gen s (Many (as_many (top vs) ++ xs) ∷ under vs) rest q)
Gen (Assign at ∷ s) vs ts q = (rest : List Token) × (x : Statement) × IsAssigned at (as_place (top vs)) ts rest x
    × Gen s (AStatement x ∷ under vs) rest q
Gen (Branches first second third d l ∷ s) vs ts q = (rest : List Token) × (a : Statements) × (b : Statements)
    × (e : Expression) × IsBranches first second third ts rest a b e
    × Gen s (AnExpr e ∷ ABlock b ∷ ABlock a ∷ vs) rest q
Gen (Scope d l ∷ s) vs ts q = (rest : List Token) × (b : Statements) × (w : Var) × (e : Expression)
    × IsScope ts rest b w e × Gen s (AnExpr e ∷ AVar w ∷ ABlock b ∷ vs) rest q
Gen (Receiver at back l ∷ s) vs ts q = (rest : List Token) × (x : Statement)
    × IsTarget at back (as_name (top vs)) ts rest x × Gen s (AStatement x ∷ under vs) rest q
Gen (Args ∷ s) vs ts q = (rest : List Token) × (xs : List Ident) × IsNames ts rest xs × Gen s (Idents xs ∷ vs) rest q
Gen (MoreArgs ∷ s) vs ts q = ((a : Span) × (rest : List Token) × (ts ≡ tok a (Sign sign.RightParen) ∷ rest)
    × Gen s vs rest q) ⊎ ((rest : List Token) × (xs : List Ident) × IsMoreNames ts rest xs
    × Gen s (Idents (as_names (top vs) ++ xs) ∷ under vs) rest q)
Gen (Params ∷ s) vs ts q = (rest : List Token) × (xs : List Var) × IsParams ts rest xs × Gen s (Vars xs ∷ vs) rest q
Gen (Param c ∷ s) vs ts q = (rest : List Token) × (v : Var) × IsVar ts rest v
    × Gen s (Vars (as_vars (top vs) ++ v ∷ []) ∷ under vs) rest q
Gen (MoreParams c ∷ s) vs ts q = ((a : Span) × (rest : List Token) × (ts ≡ tok a (Sign sign.RightParen) ∷ rest)
    × Gen s vs rest q) ⊎ ((rest : List Token) × (xs : List Var) × IsMoreParams ts rest xs
    × Gen s (Vars (as_vars (top vs) ++ xs) ∷ under vs) rest q)
Gen (Count n ∷ s) vs ts q = Gen s vs ts q
Gen (Build r ∷ s) vs ts q = Gen s (build r vs) ts q
Gen (Parent ∷ s) vs ts q = (rest : List Token) × (p : Option Ident) × IsParent ts rest p × Gen s (AParent p ∷ vs) rest q
Gen (Fields ∷ s) vs ts q = Gen s vs ts q ⊎ ((rest : List Token) × (xs : List Var) × IsFields ts rest xs
    × Gen s (Vars (as_vars (top vs) ++ xs) ∷ under vs) rest q)
Gen (Procedures ∷ s) vs ts q = Gen s vs ts q ⊎ ((rest : List Token) × (xs : List Procedure) × IsMethods ts rest xs
    × Gen s (Methods (as_methods (top vs) ++ xs) ∷ under vs) rest q)
Gen (Program c ∷ s) vs ts q = Gen s vs ts q ⊎ ((rest : List Token) × (xs : List ClassText) × IsClasses ts rest xs
    × Gen s (Classes (as_classes (top vs) ++ xs) ∷ under vs) rest q)

abbrev pub Then_gen : Step → List Token → ParsedValue → Type 0
Then_gen Wrong ts q = ⊥
Then_gen (Next m n s vs) ts q = Gen s vs ts q

-- a rest that is known better
expr_to : {k : ℕ} {ts a b : List Token} {e : Expression} → a ≡ b → IsExpr k ts a e → IsExpr k ts b e
expr_to {k} {ts} {e} h d = let P : List Token → Type 0 = λ r. IsExpr k ts r e in subst P h d

indexed_to : {name : Ident} {ts a b : List Token} {l : Lvalue} → a ≡ b → IsIndexed name ts a l → IsIndexed name ts b l
indexed_to {name} {ts} {l} h d = let P : List Token → Type 0 = λ r. IsIndexed name ts r l in subst P h d

type_to : {ts a b : List Token} {k : VarType} → a ≡ b → IsType ts a k → IsType ts b k
type_to {ts} {k} h d = let P : List Token → Type 0 = λ r. IsType ts r k in subst P h d

var_to : {ts a b : List Token} {v : Var} → a ≡ b → IsVar ts a v → IsVar ts b v
var_to {ts} {v} h d = let P : List Token → Type 0 = λ r. IsVar ts r v in subst P h d

block_to : {ts a b : List Token} {x : Statements} → a ≡ b → IsBlock ts a x → IsBlock ts b x
block_to {ts} {x} h d = let P : List Token → Type 0 = λ r. IsBlock ts r x in subst P h d

statement_from : {t : Token} {a b rest : List Token} {x : Statement} → a ≡ b → IsStatement (t ∷ b) rest x
    → IsStatement (t ∷ a) rest x
statement_from {t} {rest} {x} h d = let P : List Token → Type 0 = λ r. IsStatement (t ∷ r) rest x in subst P (sym h) d

made_from : {t : Token} {a b rest : List Token} {x : Creation} → a ≡ b → IsMade (t ∷ b) rest x → IsMade (t ∷ a) rest x
made_from {t} {rest} {x} h d = let P : List Token → Type 0 = λ r. IsMade (t ∷ r) rest x in subst P (sym h) d

bracketed_from : {t : Token} {a b rest : List Token} {x y : VarType} → a ≡ b → IsBracketed x (t ∷ b) rest y
    → IsBracketed x (t ∷ a) rest y
bracketed_from {t} {rest} {x} {y} h d = let P : List Token
    → Type 0 = λ r. IsBracketed x (t ∷ r) rest y in subst P (sym h) d

method_from : {t : Token} {a b rest : List Token} {x : Procedure} → a ≡ b → IsMethod (t ∷ b) rest x
    → IsMethod (t ∷ a) rest x
method_from {t} {rest} {x} h d = let P : List Token → Type 0 = λ r. IsMethod (t ∷ r) rest x in subst P (sym h) d

class_from : {t : Token} {a b rest : List Token} {x : ClassText} → a ≡ b → IsClass (t ∷ b) rest x
    → IsClass (t ∷ a) rest x
class_from {t} {rest} {x} h d = let P : List Token → Type 0 = λ r. IsClass (t ∷ r) rest x in subst P (sym h) d

last_from : {a : Span} {b rest : List Token} → b ≡ tok a (Sign sign.RightParen) ∷ rest → IsMoreParams b rest []
last_from {rest} h = let P : List Token → Type 0 = λ r. IsMoreParams r rest [] in subst P (sym h) last_param

-- an expression of level k, and what follows it
abbrev pub Goes : ℕ → List Token → List Part → List ParsedValue → ParsedValue → Type 0
Goes k from s vs q = (rest : List Token) × (e : Expression) × IsExpr k from rest e × Gen s (AnExpr e ∷ vs) rest q

more_join : (k p i : ℕ) (s : List Part) (vs : List ParsedValue) (from ts : List Token) (e : Expression)
    (q : ParsedValue)
    → IsExpr k from ts e → Gen (More k p i ∷ s) (AnExpr e ∷ vs) ts q → Goes k from s vs q
more_join k p i s vs from ts e q d (inl g) = (ts, e, d, g)
more_join k p i s vs from ts e q d (inr h) = (h.0, h.1, h.2 from d, h.3)

mores_sound : (k p i : ℕ) (s : List Part) (vs : List ParsedValue) (from ts : List Token) (e : Expression)
    (q : ParsedValue)
    → IsExpr 0 from ts e → Gen (mores k p i s) (AnExpr e ∷ vs) ts q → Goes k from s vs q
mores_sound zero p i s vs from ts e q d g = (ts, e, d, g)
mores_sound (suc k) p i s vs from ts e q d g =
    let r = mores_sound k p i (More (suc k) p i ∷ s) vs from ts e q d g in
    more_join (suc k) p i s vs from r.0 r.1 q (weaker r.2) r.3

operand_sound : (k p i : ℕ) (s : List Part) (n : ℕ) (vs : List ParsedValue) (a : Span) (kind : TokenKind)
    (ts : List Token)
    (q : ParsedValue) → Then_gen (operand k p i s n vs a.at kind) ts q → Gen (Level k p i ∷ s) vs (tok a kind ∷ ts) q
operand_sound k p i s n vs a (token.Number w) ts q g = mores_sound k p i s vs _ ts (Number a.at w) q number g
operand_sound k p i s n vs a (token.Word word.Nil) ts q g = mores_sound k p i s vs _ ts (Null a.at) q null g
operand_sound k p i s n vs a (token.Name x) ts q g = mores_sound k p i s vs _ g.0 (lvalue_read g.1) q (read g.2) g.3
operand_sound k p i s n vs a (token.Sign sign.LeftParen) ts q g = let h = g.3 in
    mores_sound k p i s vs _ h.1 g.1 q (parens (expr_to h.2 g.2)) h.3
operand_sound k p i s n vs a _ ts q g = absurd g

-- every operator has a level of its own, from 1 on
operator_zero : (kind : TokenKind) (found : BinOp) → operator_at 0 kind ≡ Some found → ⊥
operator_zero (token.Sign sign.Star) found h = cc
operator_zero (token.Sign sign.Slash) found h = cc
operator_zero (token.Sign sign.Percent) found h = cc
operator_zero (token.Sign sign.Plus) found h = cc
operator_zero (token.Sign sign.Minus) found h = cc
operator_zero (token.Sign sign.Less) found h = cc
operator_zero (token.Sign sign.Greater) found h = cc
operator_zero (token.Sign sign.AtMost) found h = cc
operator_zero (token.Sign sign.AtLeast) found h = cc
operator_zero (token.Sign sign.Equal) found h = cc
operator_zero (token.Sign sign.NotEqual) found h = cc
operator_zero (token.Sign sign.Amp) found h = cc
operator_zero (token.Sign sign.Caret) found h = cc
operator_zero (token.Sign sign.Bar) found h = cc
operator_zero (token.Sign sign.AmpAmp) found h = cc
operator_zero (token.Sign sign.BarBar) found h = cc
operator_zero _ found h = cc

more_step : (k p i : ℕ) (a : Span) (kind : TokenKind) (op : BinOp) (s : List Part) (vs : List ParsedValue)
    (ts rest : List Token) (r : Expression) (q : ParsedValue) → operator_at (suc k) kind ≡ Some op → IsExpr k ts rest r
    → Gen (More (suc k) p i ∷ s) (AnExpr (Binary a.at op (as_expr (top vs)) r) ∷ under vs) rest q
    → Gen (More (suc k) p i ∷ s) vs (tok a kind ∷ ts) q
more_step k p i a kind op s vs ts rest r q h d (inl g) =
    inr (rest, Binary a.at op (as_expr (top vs)) r, λ from l. binary l h d, g)
more_step k p i a kind op s vs ts rest r q h d (inr g) = inr (g.0, g.1, λ from l. g.2 from (binary l h d), g.3)

more_sound : (k p i : ℕ) (s : List Part) (n : ℕ) (vs : List ParsedValue) (a : Span) (kind : TokenKind) (other : Step)
    (op : Option BinOp) (ts : List Token) (q : ParsedValue) → operator_at k kind ≡ op
    → (Then_gen other ts q → Gen s vs (tok a kind ∷ ts) q) → Then_gen (more k p i s n vs a.at other op) ts q
    → Gen (More k p i ∷ s) vs (tok a kind ∷ ts) q
more_sound k p i s n vs a kind other None ts q e below g = inl (below g)
more_sound zero p i s n vs a kind other (Some op) ts q e below g = absurd (operator_zero kind op e)
more_sound (suc k) p i s n vs a kind other (Some op) ts q e below g =
    more_step k p i a kind op s vs ts g.0 g.1 q e g.2 g.3

index_sound : (p i : ℕ) (s : List Part) (n : ℕ) (vs : List ParsedValue) (a : Span) (kind : TokenKind) (other : Step)
    (ts : List Token) (q : ParsedValue) → (Then_gen other ts q → Gen s (build MakeWhole vs) (tok a kind ∷ ts) q)
    → Then_gen (index p i s n vs other kind) ts q → Gen (Index p i ∷ s) vs (tok a kind ∷ ts) q
index_sound p i s n vs a (token.Sign sign.LeftBracket) other ts q below g = let h = g.3 in
    (h.1, Item (as_name (top vs)) g.1, item (expr_to h.2 g.2), h.3)
index_sound p i s n vs a kind other ts q below g = (tok a kind ∷ ts, Whole (as_name (top vs)), whole, below g)

spot_sound : (s : List Part) (n : ℕ) (vs : List ParsedValue) (a : Span) (kind : TokenKind) (ts : List Token)
    (q : ParsedValue)
    → Then_gen (name (Index 0 0 ∷ s) n vs a.at kind) ts q → Gen (Spot ∷ s) vs (tok a kind ∷ ts) q
spot_sound s n vs a (token.Name x) ts q g = (g.0, g.1, place g.2, g.3)
spot_sound s n vs a _ ts q g = absurd g

-- a type, and what follows it
abbrev pub Typed : List Token → List Part → List ParsedValue → ParsedValue → Type 0
Typed ts s vs q = (rest : List Token) × (k : VarType) × IsType ts rest k × Gen s (AType k ∷ vs) rest q

bracketed : (k : VarType) (s : List Part) (vs : List ParsedValue) (ts : List Token) (q : ParsedValue)
    → Gen (Brackets ∷ s) (AType k ∷ vs) ts q → (rest : List Token) × (found : VarType) × IsBracketed k ts rest found
    × Gen s (AType found ∷ vs) rest q
bracketed k s vs ts q (inl g) = (ts, k, plain, g)
bracketed k s vs ts q (inr g) = g

type_sound : (s : List Part) (n : ℕ) (vs : List ParsedValue) (a : Span) (mark : Mark) (other : Step) (kind : TokenKind)
    (ts : List Token) (q : ParsedValue) → Then_gen (a_type s n vs a.at mark other kind) ts q
    → Typed (tok a kind ∷ ts) s vs q ⊎ Then_gen other ts q
type_sound s n vs a mark other (token.Name x) ts q g = let h = bracketed (kind.Class (ident a x)) s vs ts q g in
    inl (h.0, h.1, objects h.2, h.3)
type_sound s n vs a mark other (token.Word word.Int) ts q g = let h = bracketed kind.Int s vs ts q g in
    inl (h.0, h.1, ints h.2, h.3)
type_sound s n vs a mark other _ ts q g = inr g

typed_only : (ts : List Token) (s : List Part) (vs : List ParsedValue) (q : ParsedValue) → Typed ts s vs q ⊎ ⊥
    → Typed ts s vs q
typed_only ts s vs q (inl r) = r
typed_only ts s vs q (inr r) = absurd r

-- a variable that is added to those before it, and what follows it
abbrev pub Added : List Token → List Part → List ParsedValue → ParsedValue → Type 0
Added ts s vs q = (rest : List Token) × (v : Var) × IsVar ts rest v
    × Gen s (Vars (as_vars (top vs) ++ v ∷ []) ∷ under vs) rest q

added : (ts : List Token) (s : List Part) (vs : List ParsedValue) (q : ParsedValue) → Typed ts (field_parts s) vs q
    → Added ts s vs q
added ts s vs q g = let h = g.3 in (h.2, record { kind = g.1; name = ident h.0 h.1 }, var (type_to h.3 g.2), h.4)

brackets_sound : (s : List Part) (n : ℕ) (vs : List ParsedValue) (a : Span) (other : Step) (kind : TokenKind)
    (ts : List Token) (q : ParsedValue) → (Then_gen other ts q → Gen s vs (tok a kind ∷ ts) q)
    → Then_gen (brackets s n vs other kind) ts q → Gen (Brackets ∷ s) vs (tok a kind ∷ ts) q
brackets_sound s n vs a other (token.Sign sign.LeftBracket) ts q below g =
    inr (g.1, array_of (as_type (top vs)), bracketed_from g.2 array, g.3)
brackets_sound s n vs a other kind ts q below g = inl (below g)

made_sound : (s : List Part) (n : ℕ) (vs : List ParsedValue) (a : Span) (kind : TokenKind) (ts : List Token)
    (q : ParsedValue)
    → Then_gen (made_read s n vs a.at kind) ts q → Gen (Made ∷ s) vs (tok a kind ∷ ts) q
made_sound s n vs a (token.Name x) ts q g = (g.0, g.1, named g.2, g.3)
made_sound s n vs a (token.Word word.Int) ts q g = let h = g.3 in let b = h.3 in
    (b.1, Ints h.1, made_from g.2 (words (expr_to b.2 h.2)), b.3)
made_sound s n vs a _ ts q g = absurd g

sized_sound : (s : List Part) (n : ℕ) (vs : List ParsedValue) (a : Span) (other : Step) (kind : TokenKind)
    (ts : List Token)
    (q : ParsedValue) → (Then_gen other ts q → Gen s (build MakeObject vs) (tok a kind ∷ ts) q)
    → Then_gen (sized_step s n vs other kind) ts q → Gen (Sized ∷ s) vs (tok a kind ∷ ts) q
sized_sound s n vs a other (token.Sign sign.LeftBracket) ts q below g = let h = g.3 in
    (h.1, Objects (as_name (top vs)) g.1, many (expr_to h.2 g.2), h.3)
sized_sound s n vs a other kind ts q below g = (tok a kind ∷ ts, Object (as_name (top vs)), one, below g)

-- a statement, and what follows it
abbrev pub Runs : List Token → List Part → List ParsedValue → ParsedValue → Type 0
Runs ts s vs q = (rest : List Token) × (x : Statement) × IsStatement ts rest x × Gen s (AStatement x ∷ vs) rest q

construct_sound : (d l : ℕ) (s : List Part) (vs : List ParsedValue) (a : Span) (ts : List Token) (q : ParsedValue)
    → Gen (AName ∷ AName ∷ Block (suc d) (suc l) ∷ AWord word.Destruct ∷ AName ∷ Build (MakeConstruct a.at) ∷ s) vs ts q
    → Runs (tok a (Word word.Construct) ∷ ts) s vs q
construct_sound d l s vs a ts q g =
    let h = g.4 in
    let b = h.4 in
    let c = b.3 in
    let e = c.3 in
    let second : g.2 ≡ tok h.0 (Name h.1) ∷ h.2 = h.3 in
    let all : ts ≡ tok g.0 (Name g.1) ∷ tok h.0 (Name h.1) ∷ h.2 = g.3 ∙ ap (λ r. tok g.0 (Name g.1) ∷ r) second in
    let tail : b.0 ≡ tok c.0 (Word word.Destruct) ∷ tok e.0 (Name e.1) ∷ e.2 = c.2
    ∙ ap (λ r. tok c.0 (Word word.Destruct) ∷ r) e.3 in (
      e.2,
      Construct a.at (ident g.0 g.1) (ident h.0 h.1) b.1 (ident e.0 e.1),
      statement_from all (construct (block_to tail b.2)),
      e.4,
    )

local_sound : (d l : ℕ) (s : List Part) (vs : List ParsedValue) (a : Span) (ts : List Token) (q : ParsedValue)
    → Gen (Kind ∷ var_parts (ASign sign.Equal ∷ Level 9 0 0 ∷ Scope d l ∷ Build (MakeLocal a.at) ∷ Count 0 ∷ s)) vs ts q
    → Runs (tok a (Word word.Local) ∷ ts) s vs q
local_sound d l s vs a ts q g =
    let h = g.3 in
    let b = h.4 in
    let c = b.3 in
    let e = c.3 in
    let v : Var = record { kind = g.1; name = ident h.0 h.1 } in
    (e.0, Local a.at v c.1 e.1 e.2 e.3, declare (var_to b.2 (var (type_to h.3 g.2))) c.2 e.4, e.5)

statement_sound : (d l : ℕ) (s : List Part) (vs : List ParsedValue) (a : Span) (kind : TokenKind) (other : Step)
    (ts : List Token) (q : ParsedValue) → Then_gen (statement d l s vs a.at other kind) ts q
    → Runs (tok a kind ∷ ts) s vs q ⊎ Then_gen other ts q
statement_sound d l s vs a (token.Name x) other ts q g = let h = g.3 in inl (h.0, h.1, assign g.2 h.2, h.3)
statement_sound d l s vs a (token.Word word.If) other ts q g = let h = g.3 in
    inl (h.0, If a.at g.1 h.1 h.2 h.3, conditional g.2 h.4, h.5)
statement_sound d l s vs a (token.Word word.From) other ts q g = let h = g.3 in
    inl (h.0, From a.at g.1 h.1 h.2 h.3, repeat g.2 h.4, h.5)
statement_sound d l s vs a (token.Word word.Construct) other ts q g = inl (construct_sound d l s vs a ts q g)
statement_sound d l s vs a (token.Word word.Local) other ts q g = inl (local_sound d l s vs a ts q g)
statement_sound d l s vs a (token.Word word.New) other ts q g = let h = g.3 in
    inl (h.0, New a.at g.1 h.1, make g.2 h.2, h.3)
statement_sound d l s vs a (token.Word word.Delete) other ts q g = let h = g.3 in
    inl (h.0, Delete a.at g.1 h.1, delete g.2 h.2, h.3)
statement_sound d l s vs a (token.Word word.Copy) other ts q g = let h = g.3 in let b = h.3 in
    inl (b.0, Copy a.at g.1 h.1 b.1, copy g.2 h.2 b.2, b.3)
statement_sound d l s vs a (token.Word word.Uncopy) other ts q g = let h = g.3 in let b = h.3 in
    inl (b.0, Uncopy a.at g.1 h.1 b.1, uncopy g.2 h.2 b.2, b.3)
statement_sound d l s vs a (token.Word word.Call) other ts q g = let h = g.4 in
    inl (h.0, h.1, statement_from g.3 (call h.2), h.3)
statement_sound d l s vs a (token.Word word.Uncall) other ts q g = let h = g.4 in
    inl (h.0, h.1, statement_from g.3 (uncall h.2), h.3)
statement_sound d l s vs a (token.Word word.Skip) other ts q g = inl (ts, Skip a.at, skip, g)
statement_sound d l s vs a _ other ts q g = inr g

swapped_sound : (at : ℕ) (s : List Part) (n : ℕ) (vs : List ParsedValue) (a : Span) (kind : TokenKind) (ts : List Token)
    (q : ParsedValue) → Then_gen (swapped at s n vs kind) ts q → Gen (Assign at ∷ s) vs (tok a kind ∷ ts) q
swapped_sound at s n vs a (token.Sign sign.Swap) ts q g = (g.0, Swap at (as_place (top vs)) g.1, swap g.2, g.3)
swapped_sound at s n vs a _ ts q g = absurd g

assigned_sound : (at : ℕ) (s : List Part) (n : ℕ) (vs : List ParsedValue) (a : Span) (kind : TokenKind)
    (op : Option UpdateOp)
    (ts : List Token) (q : ParsedValue) → update_operator kind ≡ op
    → Then_gen (assigned at s n vs op (swapped at s n vs kind)) ts q → Gen (Assign at ∷ s) vs (tok a kind ∷ ts) q
assigned_sound at s n vs a kind (Some op) ts q e g = (g.0, Update at op (as_place (top vs)) g.1, update e g.2, g.3)
assigned_sound at s n vs a kind None ts q e g = swapped_sound at s n vs a kind ts q g

word_sound : (w : Keyword) (kind : TokenKind) (a : Span) (n : ℕ) (s : List Part) (vs : List ParsedValue)
    (ts : List Token)
    (q : ParsedValue) → Then_gen (cond (is_word w kind) (Next Within n s vs) Wrong) ts q
    → Gen (AWord w ∷ s) vs (tok a kind ∷ ts) q
word_sound word.Class (token.Word word.Class) a n s vs ts q g = (a, ts, refl, g)
word_sound word.Inherits (token.Word word.Inherits) a n s vs ts q g = (a, ts, refl, g)
word_sound word.Method (token.Word word.Method) a n s vs ts q g = (a, ts, refl, g)
word_sound word.Int (token.Word word.Int) a n s vs ts q g = (a, ts, refl, g)
word_sound word.Nil (token.Word word.Nil) a n s vs ts q g = (a, ts, refl, g)
word_sound word.Skip (token.Word word.Skip) a n s vs ts q g = (a, ts, refl, g)
word_sound word.If (token.Word word.If) a n s vs ts q g = (a, ts, refl, g)
word_sound word.Then (token.Word word.Then) a n s vs ts q g = (a, ts, refl, g)
word_sound word.Else (token.Word word.Else) a n s vs ts q g = (a, ts, refl, g)
word_sound word.Fi (token.Word word.Fi) a n s vs ts q g = (a, ts, refl, g)
word_sound word.From (token.Word word.From) a n s vs ts q g = (a, ts, refl, g)
word_sound word.Do (token.Word word.Do) a n s vs ts q g = (a, ts, refl, g)
word_sound word.Loop (token.Word word.Loop) a n s vs ts q g = (a, ts, refl, g)
word_sound word.Until (token.Word word.Until) a n s vs ts q g = (a, ts, refl, g)
word_sound word.Local (token.Word word.Local) a n s vs ts q g = (a, ts, refl, g)
word_sound word.Delocal (token.Word word.Delocal) a n s vs ts q g = (a, ts, refl, g)
word_sound word.Construct (token.Word word.Construct) a n s vs ts q g = (a, ts, refl, g)
word_sound word.Destruct (token.Word word.Destruct) a n s vs ts q g = (a, ts, refl, g)
word_sound word.New (token.Word word.New) a n s vs ts q g = (a, ts, refl, g)
word_sound word.Delete (token.Word word.Delete) a n s vs ts q g = (a, ts, refl, g)
word_sound word.Copy (token.Word word.Copy) a n s vs ts q g = (a, ts, refl, g)
word_sound word.Uncopy (token.Word word.Uncopy) a n s vs ts q g = (a, ts, refl, g)
word_sound word.Call (token.Word word.Call) a n s vs ts q g = (a, ts, refl, g)
word_sound word.Uncall (token.Word word.Uncall) a n s vs ts q g = (a, ts, refl, g)
word_sound _ _ a n s vs ts q g = absurd g

sign_sound : (w : Symbol) (kind : TokenKind) (a : Span) (n : ℕ) (s : List Part) (vs : List ParsedValue)
    (ts : List Token)
    (q : ParsedValue) → Then_gen (cond (is_sign w kind) (Next Within n s vs) Wrong) ts q
    → Gen (ASign w ∷ s) vs (tok a kind ∷ ts) q
sign_sound sign.AddTo (token.Sign sign.AddTo) a n s vs ts q g = (a, ts, refl, g)
sign_sound sign.SubFrom (token.Sign sign.SubFrom) a n s vs ts q g = (a, ts, refl, g)
sign_sound sign.XorInto (token.Sign sign.XorInto) a n s vs ts q g = (a, ts, refl, g)
sign_sound sign.Swap (token.Sign sign.Swap) a n s vs ts q g = (a, ts, refl, g)
sign_sound sign.Plus (token.Sign sign.Plus) a n s vs ts q g = (a, ts, refl, g)
sign_sound sign.Minus (token.Sign sign.Minus) a n s vs ts q g = (a, ts, refl, g)
sign_sound sign.Caret (token.Sign sign.Caret) a n s vs ts q g = (a, ts, refl, g)
sign_sound sign.Amp (token.Sign sign.Amp) a n s vs ts q g = (a, ts, refl, g)
sign_sound sign.Bar (token.Sign sign.Bar) a n s vs ts q g = (a, ts, refl, g)
sign_sound sign.AmpAmp (token.Sign sign.AmpAmp) a n s vs ts q g = (a, ts, refl, g)
sign_sound sign.BarBar (token.Sign sign.BarBar) a n s vs ts q g = (a, ts, refl, g)
sign_sound sign.Less (token.Sign sign.Less) a n s vs ts q g = (a, ts, refl, g)
sign_sound sign.Greater (token.Sign sign.Greater) a n s vs ts q g = (a, ts, refl, g)
sign_sound sign.AtMost (token.Sign sign.AtMost) a n s vs ts q g = (a, ts, refl, g)
sign_sound sign.AtLeast (token.Sign sign.AtLeast) a n s vs ts q g = (a, ts, refl, g)
sign_sound sign.Equal (token.Sign sign.Equal) a n s vs ts q g = (a, ts, refl, g)
sign_sound sign.NotEqual (token.Sign sign.NotEqual) a n s vs ts q g = (a, ts, refl, g)
sign_sound sign.Star (token.Sign sign.Star) a n s vs ts q g = (a, ts, refl, g)
sign_sound sign.Slash (token.Sign sign.Slash) a n s vs ts q g = (a, ts, refl, g)
sign_sound sign.Percent (token.Sign sign.Percent) a n s vs ts q g = (a, ts, refl, g)
sign_sound sign.LeftParen (token.Sign sign.LeftParen) a n s vs ts q g = (a, ts, refl, g)
sign_sound sign.RightParen (token.Sign sign.RightParen) a n s vs ts q g = (a, ts, refl, g)
sign_sound sign.LeftBracket (token.Sign sign.LeftBracket) a n s vs ts q g = (a, ts, refl, g)
sign_sound sign.RightBracket (token.Sign sign.RightBracket) a n s vs ts q g = (a, ts, refl, g)
sign_sound sign.Comma (token.Sign sign.Comma) a n s vs ts q g = (a, ts, refl, g)
sign_sound sign.DoubleColon (token.Sign sign.DoubleColon) a n s vs ts q g = (a, ts, refl, g)
sign_sound _ _ a n s vs ts q g = absurd g

name_sound : (kind : TokenKind) (a : Span) (n : ℕ) (s : List Part) (vs : List ParsedValue) (ts : List Token)
    (q : ParsedValue)
    → Then_gen (name s n vs a.at kind) ts q → Gen (AName ∷ s) vs (tok a kind ∷ ts) q
name_sound (token.Name x) a n s vs ts q g = (a, x, ts, refl, g)
name_sound _ a n s vs ts q g = absurd g

-- two blocks and an expression after their first keyword
branches_join : (first second third : Keyword) (d l n : ℕ) (ts : List Token) (s : List Part) (vs : List ParsedValue)
    (q : ParsedValue) → Gen (AWord first ∷ branch_parts second third d l n s) vs ts q
    → Gen (Branches first second third d l ∷ s) vs ts q
branches_join first second third d l n ts s vs q g =
    let u = g.3 in
    let w = u.3 in
    let b = w.3 in
    let c = b.3 in
    let e = c.3 in
    let P : List Token → Type 0 = λ r. IsBranches first second third r e.0 u.1 b.1 e.1 in
    (e.0, u.1, b.1, e.1, subst P (sym g.2) (branches (block_to w.2 u.2) (block_to c.2 b.2) e.2), e.3)

scope_join : (n : ℕ) (ts mid : List Token) (b : Statements) (s : List Part) (vs : List ParsedValue) (q : ParsedValue)
    → IsBlock ts mid b → Gen (scope_end n s) (ABlock b ∷ vs) mid q
    → (rest : List Token) × (c : Statements) × (w : Var) × (e : Expression) × IsScope ts rest c w e
    × Gen s (AnExpr e ∷ AVar w ∷ ABlock c ∷ vs) rest q
scope_join n ts mid b s vs q r g =
    let t = g.3 in
    let x = t.3 in
    let y = x.4 in
    let e = y.3 in
    let w : Var = record { kind = t.1; name = ident x.0 x.1 } in
    (e.0, b, w, e.1, scope (block_to g.2 r) (var_to y.2 (var (type_to x.3 t.2))) e.2, e.3)

send_sound : (at : ℕ) (back : Bool) (first : Ident) (l : Lvalue) (from : List Token) (a : Span) (ts : List Token)
    (s : List Part) (vs : List ParsedValue) (q : ParsedValue)
    → IsIndexed first from (tok a (Sign sign.DoubleColon) ∷ ts) l
    → Gen (send_parts at back s) (APlace l ∷ vs) ts q → (rest : List Token) × (x : Statement)
    × IsTarget at back first from rest x × Gen s (AStatement x ∷ vs) rest q
send_sound at back first l from a ts s vs q i g =
    let b = g.4 in
    let c = b.3 in
    let all : tok a (Sign sign.DoubleColon) ∷ ts ≡ tok a (Sign sign.DoubleColon) ∷ tok g.0 (Name g.1)
    ∷ tok b.0 (Sign sign.LeftParen) ∷ b.1 = ap (λ r. tok a (Sign sign.DoubleColon) ∷ r)
    (g.3 ∙ ap (λ r. tok g.0 (Name g.1) ∷ r) b.2) in
    (c.0, Call at back (Some l) (ident g.0 g.1) c.1, on (indexed_to all i) c.2, c.3)

receiver_sound : (at : ℕ) (back : Bool) (l : ℕ) (kind : TokenKind) (a : Span) (n : ℕ) (s : List Part)
    (vs : List ParsedValue)
    (ts : List Token) (q : ParsedValue) → Then_gen (receiver at back l s n vs kind) ts q
    → Gen (Receiver at back l ∷ s) vs (tok a kind ∷ ts) q
receiver_sound at back l (token.Sign sign.LeftParen) a n s vs ts q g =
    (g.0, Call at back None (as_name (top vs)) g.1, own g.2, g.3)
receiver_sound at back l (token.Sign sign.DoubleColon) a n s vs ts q g =
    send_sound at back (as_name (top vs)) (Whole (as_name (top vs))) (tok a (Sign sign.DoubleColon) ∷ ts) a ts s
    (under vs) q whole g
receiver_sound at back l (token.Sign sign.LeftBracket) a n s vs ts q g =
    let b = g.3 in
    let c = b.3 in
    send_sound at back (as_name (top vs)) (Item (as_name (top vs)) g.1) _ c.0 c.1 s (under vs) q
    (indexed_to c.2 (item (expr_to b.2 g.2))) c.3
receiver_sound at back l _ a n s vs ts q g = absurd g

names_behind : (a : Span) (x : List ℕ) (ts : List Token) (s : List Part) (vs : List ParsedValue) (q : ParsedValue)
    → Gen (MoreArgs ∷ s) (Idents (ident a x ∷ []) ∷ vs) ts q
    → (rest : List Token) × (xs : List Ident) × IsNames (tok a (Name x) ∷ ts) rest xs × Gen s (Idents xs ∷ vs) rest q
names_behind a x ts s vs q (inl g) =
    let P : List Token → Type 0 = λ r. IsNames (tok a (Name x) ∷ r) g.1 (ident a x ∷ []) in
    (g.1, ident a x ∷ [], subst P (sym g.2) (some close), g.3)
names_behind a x ts s vs q (inr g) = (g.0, ident a x ∷ g.1, some g.2, g.3)

more_behind : (a b : Span) (x : List ℕ) (ts us : List Token) (s : List Part) (vs : List ParsedValue) (q : ParsedValue)
    → us ≡ tok b (Name x) ∷ ts → Gen (MoreArgs ∷ s) (Idents (as_names (top vs) ++ ident b x ∷ []) ∷ under vs) ts q
    → Gen (MoreArgs ∷ s) vs (tok a (Sign sign.Comma) ∷ us) q
more_behind a b x ts us s vs q e (inl g) =
    let P : List Token → Type 0 = λ r. IsMoreNames (tok a (Sign sign.Comma) ∷ tok b (Name x) ∷ r) g.1 (ident b x ∷ [])
    in
    let Q : List Token → Type 0 = λ r. IsMoreNames (tok a (Sign sign.Comma) ∷ r) g.1 (ident b x ∷ []) in
    inr (g.1, ident b x ∷ [], subst Q (sym e) (subst P (sym g.2) (comma close)), g.3)
more_behind a b x ts us s vs q e (inr g) =
    let P : List Ident → Type 0 = λ l. Gen s (Idents l ∷ under vs) g.0 q in
    let Q : List Token → Type 0 = λ r. IsMoreNames (tok a (Sign sign.Comma) ∷ r) g.0 (ident b x ∷ g.1) in
    inr (
      g.0,
      ident b x ∷ g.1,
      subst Q (sym e) (comma g.2),
      subst P (append_assoc (as_names (top vs)) (ident b x ∷ []) g.1) g.3,
    )

args_sound : (kind : TokenKind) (a : Span) (n : ℕ) (s : List Part) (vs : List ParsedValue) (ts : List Token)
    (q : ParsedValue)
    → Then_gen (args s n vs a.at kind) ts q → Gen (Args ∷ s) vs (tok a kind ∷ ts) q
args_sound (token.Sign sign.RightParen) a n s vs ts q g = (ts, [], none, g)
args_sound (token.Name x) a n s vs ts q g = names_behind a x ts s vs q g
args_sound _ a n s vs ts q g = absurd g

more_args_sound : (kind : TokenKind) (a : Span) (n : ℕ) (s : List Part) (vs : List ParsedValue) (ts : List Token)
    (q : ParsedValue)
    → Then_gen (more_args s n vs kind) ts q → Gen (MoreArgs ∷ s) vs (tok a kind ∷ ts) q
more_args_sound (token.Sign sign.RightParen) a n s vs ts q g = inl (a, ts, refl, g)
more_args_sound (token.Sign sign.Comma) a n s vs ts q g = more_behind a g.0 g.1 g.2 ts s vs q g.3 g.4
more_args_sound _ a n s vs ts q g = absurd g

params_behind : (ts mid : List Token) (v : Var) (c : ℕ) (s : List Part) (vs : List ParsedValue) (q : ParsedValue)
    → IsVar ts mid v
    → Gen (MoreParams c ∷ s) (Vars (v ∷ []) ∷ vs) mid q → Gen (Params ∷ s) vs ts q
params_behind ts mid v c s vs q d (inl g) = (g.1, v ∷ [], some_params d (last_from g.2), g.3)
params_behind ts mid v c s vs q d (inr g) = (g.0, v ∷ g.1, some_params d g.2, g.3)

params_first : (ts : List Token) (s : List Part) (vs : List ParsedValue) (q : ParsedValue)
    → Added ts (MoreParams 1 ∷ s) (Vars [] ∷ vs) q → Gen (Params ∷ s) vs ts q
params_first ts s vs q g = params_behind ts g.0 g.1 1 s vs q g.2 g.3

params_sound : (kind : TokenKind) (a : Span) (n : ℕ) (s : List Part) (vs : List ParsedValue) (step : Step)
    (ts : List Token)
    (q : ParsedValue) → (Then_gen step ts q → Gen (Params ∷ s) vs (tok a kind ∷ ts) q)
    → Then_gen (params s n vs step kind) ts q → Gen (Params ∷ s) vs (tok a kind ∷ ts) q
params_sound (token.Sign sign.RightParen) a n s vs step ts q below g = (ts, [], no_param, g)
params_sound _ a n s vs step ts q below g = below g

more_params_behind : (a : Span) (c : ℕ) (ts mid : List Token) (v : Var) (s : List Part) (vs : List ParsedValue)
    (q : ParsedValue)
    → IsVar ts mid v → Gen (MoreParams c ∷ s) (Vars (as_vars (top vs) ++ v ∷ []) ∷ under vs) mid q
    → Gen (MoreParams c ∷ s) vs (tok a (Sign sign.Comma) ∷ ts) q
more_params_behind a c ts mid v s vs q d (inl g) = inr (g.1, v ∷ [], next_param d (last_from g.2), g.3)
more_params_behind a c ts mid v s vs q d (inr g) =
    let P : List Var → Type 0 = λ l. Gen s (Vars l ∷ under vs) g.0 q in
    inr (g.0, v ∷ g.1, next_param d g.2, subst P (append_assoc (as_vars (top vs)) (v ∷ []) g.1) g.3)

more_params_sound : (c : ℕ) (kind : TokenKind) (a : Span) (n : ℕ) (s : List Part) (vs : List ParsedValue)
    (ts : List Token)
    (q : ParsedValue) → Then_gen (more_params c s n vs kind) ts q → Gen (MoreParams c ∷ s) vs (tok a kind ∷ ts) q
more_params_sound c (token.Sign sign.RightParen) a n s vs ts q g = inl (a, ts, refl, g)
more_params_sound c (token.Sign sign.Comma) a n s vs ts q g = more_params_behind a c ts g.0 g.1 s vs q g.2 g.3
more_params_sound c _ a n s vs ts q g = absurd g

single_only : (ts : List Token) (s : List Part) (vs : List ParsedValue) (q : ParsedValue) → Runs ts s vs q ⊎ ⊥
    → Runs ts s vs q
single_only ts s vs q (inl r) = r
single_only ts s vs q (inr r) = absurd r

stmts_behind : (d l : ℕ) (ts mid : List Token) (x : Statement) (s : List Part) (vs : List ParsedValue) (q : ParsedValue)
    → IsStatement ts mid x → Gen (Stmts d l ∷ s) (Many (as_many (top vs) ++ x ∷ []) ∷ under vs) mid q
    → (rest : List Token) × (xs : List Statement) × IsStatements ts rest (x ∷ xs)
    × Gen s (Many (as_many (top vs) ++ x ∷ xs) ∷ under vs) rest q
stmts_behind d l ts mid x s vs q r (inl g) = (mid, [], then r end, g)
stmts_behind d l ts mid x s vs q r (inr g) =
    let P : List Statement → Type 0 = λ l. Gen s (Many l ∷ under vs) g.0 q in
    (g.0, g.1, then r g.2, subst P (append_assoc (as_many (top vs)) (x ∷ []) g.1) g.3)

block_behind : (d l : ℕ) (ts mid : List Token) (x : Statement) (s : List Part) (vs : List ParsedValue) (q : ParsedValue)
    → IsStatement ts mid x → Gen (Stmts d l ∷ Build MakeBlock ∷ s) (Many (x ∷ []) ∷ vs) mid q
    → Gen (Block d l ∷ s) vs ts q
block_behind d l ts mid x s vs q r (inl g) = (mid, statements_of (x ∷ []), block r end, g)
block_behind d l ts mid x s vs q r (inr g) = (g.0, statements_of (x ∷ g.1), block r g.2, g.3)

-- the first statement of a block, and what follows it
block_first : (d l : ℕ) (ts : List Token) (s : List Part) (vs : List ParsedValue) (q : ParsedValue)
    → Runs ts (block_parts d l s) (Many [] ∷ vs) q → Gen (Block d l ∷ s) vs ts q
block_first d l ts s vs q r = block_behind d l ts r.0 r.1 s vs q r.2 r.3

stmts_sound : (d l : ℕ) (ts us : List Token) (step : Step) (s : List Part) (vs : List ParsedValue) (q : ParsedValue)
    → (Then_gen step us q → Gen s vs ts q) → Runs ts (more_statements d l s) vs q ⊎ Then_gen step us q
    → Gen (Stmts d l ∷ s) vs ts q
stmts_sound d l ts us step s vs q below (inl r) =
    let g = stmts_behind d l ts r.0 r.1 s vs q r.2 r.3 in
    inr (g.0, r.1 ∷ g.1, g.2, g.3)
stmts_sound d l ts us step s vs q below (inr g) = inl (below g)

parent_sound : (kind : TokenKind) (a : Span) (n : ℕ) (s : List Part) (vs : List ParsedValue) (step : Step)
    (ts : List Token)
    (q : ParsedValue) → (Then_gen step ts q → Gen s (AParent None ∷ vs) (tok a kind ∷ ts) q)
    → Then_gen (parent s n vs step kind) ts q → Gen (Parent ∷ s) vs (tok a kind ∷ ts) q
parent_sound (token.Word word.Inherits) a n s vs step ts q below g =
    let P : List Token → Type 0 = λ r. IsParent (tok a (Word word.Inherits) ∷ r) g.2 (Some (ident g.0 g.1)) in
    (g.2, Some (ident g.0 g.1), subst P (sym g.3) inherits, g.4)
parent_sound kind a n s vs step ts q below g = (tok a kind ∷ ts, None, alone, below g)

field_join : (from ts : List Token) (v : Var) (s : List Part) (vs : List ParsedValue) (q : ParsedValue)
    → IsVar from ts v
    → Gen (Fields ∷ s) (Vars (as_vars (top vs) ++ v ∷ []) ∷ under vs) ts q → Gen (Fields ∷ s) vs from q
field_join from ts v s vs q d (inl g) = inr (ts, v ∷ [], field d no_field, g)
field_join from ts v s vs q d (inr g) =
    let P : List Var → Type 0 = λ l. Gen s (Vars l ∷ under vs) g.0 q in
    inr (g.0, v ∷ g.1, field d g.2, subst P (append_assoc (as_vars (top vs)) (v ∷ []) g.1) g.3)

field_first : (ts : List Token) (s : List Part) (vs : List ParsedValue) (q : ParsedValue) → Added ts (Fields ∷ s) vs q
    → Gen (Fields ∷ s) vs ts q
field_first ts s vs q g = field_join ts g.0 g.1 s vs q g.2 g.3

fields_sound : (ts us : List Token) (step : Step) (s : List Part) (vs : List ParsedValue) (q : ParsedValue)
    → (Then_gen step us q → Gen s vs ts q) → Typed ts (field_parts (Fields ∷ s)) vs q ⊎ Then_gen step us q
    → Gen (Fields ∷ s) vs ts q
fields_sound ts us step s vs q below (inl r) = field_first ts s vs q (added ts (Fields ∷ s) vs q r)
fields_sound ts us step s vs q below (inr g) = inl (below g)

method_join : (from ts : List Token) (x : Procedure) (s : List Part) (vs : List ParsedValue) (q : ParsedValue)
    → IsMethod from ts x
    → Gen (Procedures ∷ s) (Methods (as_methods (top vs) ++ x ∷ []) ∷ under vs) ts q → Gen (Procedures ∷ s) vs from q
method_join from ts x s vs q d (inl g) = inr (ts, x ∷ [], methods d no_method, g)
method_join from ts x s vs q d (inr g) =
    let P : List Procedure → Type 0 = λ l. Gen s (Methods l ∷ under vs) g.0 q in
    inr (g.0, x ∷ g.1, methods d g.2, subst P (append_assoc (as_methods (top vs)) (x ∷ []) g.1) g.3)

procedures_sound : (kind : TokenKind) (a : Span) (n : ℕ) (s : List Part) (vs : List ParsedValue) (step : Step)
    (ts : List Token) (q : ParsedValue) → (Then_gen step ts q → Gen s vs (tok a kind ∷ ts) q)
    → Then_gen (procedures s n vs step kind) ts q → Gen (Procedures ∷ s) vs (tok a kind ∷ ts) q
procedures_sound (token.Word word.Method) a n s vs step ts q below g =
    let b = g.4 in
    let c = b.3 in
    let e = c.3 in
    let x : Procedure = record { name = ident g.0 g.1; params = c.1; body = e.1 } in
    let all : ts ≡ tok g.0 (Name g.1) ∷ tok b.0 (Sign sign.LeftParen) ∷ b.1 = g.3
    ∙ ap (λ r. tok g.0 (Name g.1) ∷ r) b.2 in
    method_join (tok a (Word word.Method) ∷ ts) e.0 x s vs q (method_from all (method c.2 e.2)) e.3
procedures_sound _ a n s vs step ts q below g = inl (below g)

class_join : (c : ℕ) (from ts : List Token) (x : ClassText) (s : List Part) (vs : List ParsedValue) (q : ParsedValue)
    → IsClass from ts x → Gen (Program c ∷ s) (Classes (as_classes (top vs) ++ x ∷ []) ∷ under vs) ts q
    → Gen (Program c ∷ s) vs from q
class_join c from ts x s vs q d (inl g) = inr (ts, x ∷ [], classes d no_class, g)
class_join c from ts x s vs q d (inr g) =
    let P : List ClassText → Type 0 = λ l. Gen s (Classes l ∷ under vs) g.0 q in
    inr (g.0, x ∷ g.1, classes d g.2, subst P (append_assoc (as_classes (top vs)) (x ∷ []) g.1) g.3)

-- the methods of a class, after its fields, and what follows them
abbrev pub Ends_class : List Token → Ident → Option Ident → List Var → List Part → List ParsedValue → ParsedValue
    → Type 0
Ends_class ts name p fs s vs q = (rest : List Token) × (ms : List Procedure) × IsMethods ts rest ms
    × Gen s (Classes (as_classes (top vs) ++ record { name = name; parent = p; fields = fs; methods = ms } ∷ [])
    ∷ under vs) rest q

class_methods : (ts : List Token) (name : Ident) (p : Option Ident) (fs : List Var) (s : List Part)
    (vs : List ParsedValue)
    (q : ParsedValue) → Gen (Procedures ∷ Build MakeClass ∷ s) (Methods [] ∷ Vars fs ∷ AParent p ∷ AnIdent name ∷ vs) ts
    q
    → Ends_class ts name p fs s vs q
class_methods ts name p fs s vs q (inl g) = (ts, [], no_method, g)
class_methods ts name p fs s vs q (inr g) = (g.0, g.1, g.2, g.3)

class_fields : (ts : List Token) (name : Ident) (p : Option Ident) (s : List Part) (vs : List ParsedValue)
    (q : ParsedValue)
    → Gen (Fields ∷ Build NoMethods ∷ Procedures ∷ Build MakeClass ∷ s) (Vars [] ∷ AParent p ∷ AnIdent name ∷ vs) ts q
    → (mid : List Token) × (fs : List Var) × IsFields ts mid fs × Ends_class mid name p fs s vs q
class_fields ts name p s vs q (inl g) = (ts, [], no_field, class_methods ts name p [] s vs q g)
class_fields ts name p s vs q (inr g) = (g.0, g.1, g.2, class_methods g.0 name p g.1 s vs q g.3)

program_sound : (c : ℕ) (kind : TokenKind) (a : Span) (n : ℕ) (s : List Part) (vs : List ParsedValue) (step : Step)
    (ts : List Token) (q : ParsedValue) → (Then_gen step ts q → Gen s vs (tok a kind ∷ ts) q)
    → Then_gen (program c s n vs step kind) ts q → Gen (Program c ∷ s) vs (tok a kind ∷ ts) q
program_sound c (token.Word word.Class) a n s vs step ts q below g =
    let b = g.4 in
    let f = class_fields b.0 (ident g.0 g.1) b.1 (Program (suc c) ∷ s) vs q b.3 in
    let m = f.3 in
    let x : ClassText = record { name = ident g.0 g.1; parent = b.1; fields = f.1; methods = m.1 } in
    class_join c (tok a (Word word.Class) ∷ ts) m.0 x s vs q (class_from g.3 (class b.2 f.2 m.2)) m.3
program_sound c _ a n s vs step ts q below g = inl (below g)

abbrev span_of : Token → Span
span_of t = record { at = t.at; len = t.len }

pub walk_sound : (s : List Part) (n : ℕ) (vs : List ParsedValue) (t : Token) (ts : List Token) (q : ParsedValue)
    → Then_gen (walk s n vs t) ts q → Gen s vs (t ∷ ts) q
unfolding walk
walk_sound [] n vs t ts q g = absurd g
walk_sound (AWord w ∷ s) n vs t ts q g = word_sound w t.kind (span_of t) n s vs ts q g
walk_sound (ASign w ∷ s) n vs t ts q g = sign_sound w t.kind (span_of t) n s vs ts q g
walk_sound (AName ∷ s) n vs t ts q g = name_sound t.kind (span_of t) n s vs ts q g
walk_sound (Level k p i ∷ s) n vs t ts q g = operand_sound k p i s n vs (span_of t) t.kind ts q g
walk_sound (More k p i ∷ s) n vs t ts q g = more_sound k p i s n vs (span_of t) t.kind (walk s n vs t)
    (operator_at k t.kind) ts q refl (walk_sound s n vs t ts q) g
walk_sound (Index p i ∷ s) n vs t ts q g = index_sound p i s n vs (span_of t) t.kind (walk s n (build MakeWhole vs) t)
    ts q (walk_sound s n (build MakeWhole vs) t ts q) g
walk_sound (Spot ∷ s) n vs t ts q g = spot_sound s n vs (span_of t) t.kind ts q g
walk_sound (Kind ∷ s) n vs t ts q g = typed_only (t ∷ ts) s vs q
    (type_sound s n vs (span_of t) Within Wrong t.kind ts q g)
walk_sound (Brackets ∷ s) n vs t ts q g = brackets_sound s n vs (span_of t) (walk s n vs t) t.kind ts q
    (walk_sound s n vs t ts q) g
walk_sound (Made ∷ s) n vs t ts q g = made_sound s n vs (span_of t) t.kind ts q g
walk_sound (Sized ∷ s) n vs t ts q g = sized_sound s n vs (span_of t) (walk s n (build MakeObject vs) t) t.kind ts q
    (walk_sound s n (build MakeObject vs) t ts q) g
walk_sound (Single d l ∷ s) n vs t ts q g = single_only (t ∷ ts) s vs q
    (statement_sound d l s vs (span_of t) t.kind Wrong ts q g)
walk_sound (Block d l ∷ s) n vs t ts q g = block_first d l (t ∷ ts) s vs q
    (single_only (t ∷ ts) (block_parts d l s) (Many [] ∷ vs) q
    (statement_sound d l (block_parts d l s) (Many [] ∷ vs) (span_of t) t.kind Wrong ts q g))
walk_sound (Stmts d l ∷ s) n vs t ts q g = stmts_sound d l (t ∷ ts) ts (walk s n vs t) s vs q (walk_sound s n vs t ts q)
    (statement_sound d l (more_statements d l s) vs (span_of t) t.kind (walk s n vs t) ts q g)
walk_sound (Assign at ∷ s) n vs t ts q g = assigned_sound at s n vs (span_of t) t.kind (update_operator t.kind) ts q
    refl g
walk_sound (Branches first second third d l ∷ s) n vs t ts q g =
    branches_join first second third d l n (t ∷ ts) s vs q
    (word_sound first t.kind (span_of t) n (branch_parts second third d l n s) vs ts q g)
walk_sound (Scope d l ∷ s) n vs t ts q g =
    let r = block_first (suc d) (suc l) (t ∷ ts) (scope_end n s) vs q
    (single_only (t ∷ ts) (block_parts (suc d) (suc l) (scope_end n s)) (Many [] ∷ vs) q
    (statement_sound (suc d) (suc l) (block_parts (suc d) (suc l) (scope_end n s)) (Many [] ∷ vs) (span_of t)
    t.kind Wrong ts q g)) in
    scope_join n (t ∷ ts) r.0 r.1 s vs q r.2 r.3
walk_sound (Receiver at back l ∷ s) n vs t ts q g = receiver_sound at back l t.kind (span_of t) n s vs ts q g
walk_sound (Args ∷ s) n vs t ts q g = args_sound t.kind (span_of t) n s vs ts q g
walk_sound (MoreArgs ∷ s) n vs t ts q g = more_args_sound t.kind (span_of t) n s vs ts q g
walk_sound (Params ∷ s) n vs t ts q g = params_sound t.kind (span_of t) n s vs _ ts q
    (λ h. params_first (t ∷ ts) s vs q (added (t ∷ ts) (MoreParams 1 ∷ s) (Vars [] ∷ vs) q
    (typed_only (t ∷ ts) (field_parts (MoreParams 1 ∷ s)) (Vars [] ∷ vs) q
    (type_sound (field_parts (MoreParams 1 ∷ s)) n (Vars [] ∷ vs) (span_of t) _ Wrong t.kind ts q h)))) g
walk_sound (Param c ∷ s) n vs t ts q g = added (t ∷ ts) s vs q
    (typed_only (t ∷ ts) (field_parts s) vs q (type_sound (field_parts s) n vs (span_of t) _ Wrong t.kind ts q g))
walk_sound (MoreParams c ∷ s) n vs t ts q g = more_params_sound c t.kind (span_of t) n s vs ts q g
walk_sound (Count m ∷ s) n vs t ts q g = walk_sound s m vs t ts q g
walk_sound (Build r ∷ s) n vs t ts q g = walk_sound s n (build r vs) t ts q g
walk_sound (Parent ∷ s) n vs t ts q g = parent_sound t.kind (span_of t) n s vs (walk s n (AParent None ∷ vs) t) ts q
    (walk_sound s n (AParent None ∷ vs) t ts q) g
walk_sound (Fields ∷ s) n vs t ts q g = fields_sound (t ∷ ts) ts (walk s n vs t) s vs q (walk_sound s n vs t ts q)
    (type_sound (field_parts (Fields ∷ s)) n vs (span_of t) Within (walk s n vs t) t.kind ts q g)
walk_sound (Procedures ∷ s) n vs t ts q g = procedures_sound t.kind (span_of t) n s vs (walk s n vs t) ts q
    (walk_sound s n vs t ts q) g
walk_sound (Program c ∷ s) n vs t ts q g = program_sound c t.kind (span_of t) n s vs (walk s n vs t) ts q
    (walk_sound s n vs t ts q) g

pub ends_sound : (at : ℕ) (s : List Part) (vs : List ParsedValue) (q : ParsedValue) → ends at s vs ≡ Ok q
    → Gen s vs [] q
unfolding ends
ends_sound at [] vs q h = (refl, cc)
ends_sound at (More k p i ∷ s) vs q h = inl (ends_sound at s vs q h)
ends_sound at (Index p i ∷ s) vs q h = ([], Whole (as_name (top vs)), whole, ends_sound at s (build MakeWhole vs) q h)
ends_sound at (Brackets ∷ s) vs q h = inl (ends_sound at s vs q h)
ends_sound at (Sized ∷ s) vs q h = ([], Object (as_name (top vs)), one, ends_sound at s (build MakeObject vs) q h)
ends_sound at (Stmts d l ∷ s) vs q h = inl (ends_sound at s vs q h)
ends_sound at (Count n ∷ s) vs q h = ends_sound at s vs q h
ends_sound at (Build r ∷ s) vs q h = ends_sound at s (build r vs) q h
ends_sound at (Parent ∷ s) vs q h = ([], None, alone, ends_sound at s (AParent None ∷ vs) q h)
ends_sound at (Fields ∷ s) vs q h = inl (ends_sound at s vs q h)
ends_sound at (Procedures ∷ s) vs q h = inl (ends_sound at s vs q h)
ends_sound at (Program c ∷ s) vs q h = inl (ends_sound at s vs q h)
ends_sound at (_ ∷ s) vs q h = cc
