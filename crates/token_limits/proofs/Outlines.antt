-- The limits that tokens pass are those that the reader finds, as far as the tokens are those of a
-- program: what is to come for the counts is the outline of the reader's stack.
use Rattle.std.specs.Prelude.{◌≡◌, ⊤, ℕ, suc, ◌+◌, ◌≤◌, ◌<◌, Bool, true, false, not, ◌||◌, List, [], ◌∷◌, drop, nat_lt}
use Rattle.std.specs.Prelude.{cond}
use Rattle.std.specs.Prelude.{Option, Some, None, is_some, refl}
use Rattle.std.proofs.Common.{zero, subst, sym, ap, arith, ltb-true, lt-ltb}
use Rattle.roopl_parser.specs.rpp_tree.declared.tree.BinOp.{BinOp}
use Rattle.roopl_parser.specs.rpp_tree.declared.limits.LimitKind.{LimitKind}
use Rattle.roopl_parser.specs.rpp_tree.declared.limits.LimitKind.TheVariants as limit
use Rattle.roopl_parser.specs.rpp_tree.declared.limits.TheConstants.{MOST_NODES, MOST_INDEX_DEPTH, MOST_PARENS}
use Rattle.roopl_parser.specs.rpp_tree.declared.limits.TheConstants.{MOST_NESTING}
use Rattle.roopl_parser.specs.rpp_tree.declared.limits.TheConstants.{MOST_LOCALS, MOST_PARAMETERS, MOST_CLASSES}
use Rattle.roopl_parser.specs.roopl_lexer.declared.token.Token.{Token}
use Rattle.roopl_parser.specs.roopl_lexer.declared.token.TokenKind.{TokenKind}
use Rattle.roopl_parser.specs.roopl_lexer.declared.token.TokenKind.TheVariants as token
use Rattle.roopl_parser.specs.roopl_lexer.declared.token.Keyword.TheVariants as word
use Rattle.roopl_parser.specs.roopl_lexer.declared.token.Symbol.TheVariants as sign
use Rattle.roopl_parser.specs.Operators.{operator_at, update_operator}
use Rattle.token_limits.specs.Limits as counts
use Rattle.roopl_parser.specs.Reader.{ParsedValue, Part, Step, Within, Past, Element, Wrong, Next, Many, AParent, Vars}
use Rattle.roopl_parser.specs.Reader.{AWord, ASign, AName, Level, More, Index, Spot, Kind, Brackets, Made, Sized}
use Rattle.roopl_parser.specs.Reader.{Single, Block, Stmts, Assign, Branches, Scope, Receiver, Args, MoreArgs, Params}
use Rattle.roopl_parser.specs.Reader.{Param, MoreParams, Count, Build, Parent, Fields, Procedures, Program, MakeWhole}
use Rattle.roopl_parser.specs.Reader.{MakeObject, MakeBlock, passed, mark_at_most, node_mark, name_mark}
use Rattle.roopl_parser.specs.Reader.{param_mark, operand, more, mores, index, name, a_type, brackets, made_read, sized}
use Rattle.roopl_parser.specs.Reader.{statement, more_statements, scope_end, assigned, swapped, receiver}
use Rattle.roopl_parser.specs.Reader.{branch_parts, args, more_args, field_parts, params, more_params, parent}
use Rattle.roopl_parser.specs.Reader.{procedures, program, is_word, is_sign, build, walk}

-- what is left of a stack for the counts
abbrev pub outline : List Part → List counts.CountPart
outline [] = []
outline (AWord w ∷ s) = counts.Any ∷ outline s
outline (ASign sign.LeftBracket ∷ s) = counts.Index 0 ∷ drop 2 (outline s)
outline (ASign w ∷ s) = counts.Any ∷ outline s
outline (AName ∷ s) = counts.Any ∷ outline s
outline (Level k p i ∷ s) = counts.Level k p ∷ outline s
outline (More k p i ∷ s) = counts.More k p ∷ outline s
outline (Index p i ∷ s) = counts.Index p ∷ outline s
outline (Spot ∷ s) = counts.Any ∷ counts.Index 0 ∷ outline s
outline (Kind ∷ s) = counts.Any ∷ counts.Brackets ∷ outline s
outline (Brackets ∷ s) = counts.Brackets ∷ outline s
outline (Made ∷ s) = counts.Any ∷ counts.Index 0 ∷ outline s
outline (Sized ∷ s) = counts.Index 0 ∷ outline s
outline (Single d l ∷ s) = outline s
outline (Block d l ∷ s) = counts.Block d l ∷ outline s
outline (Stmts d l ∷ s) = counts.Block d l ∷ outline s
outline (Assign at ∷ s) = counts.Assign ∷ outline s
outline (Branches first second third d l ∷ s) = counts.Branches d l ∷ outline s
outline (Scope d l ∷ s) = counts.Scope d l ∷ outline s
outline (Receiver at back l ∷ s) = counts.Receiver l ∷ outline s
outline (Args ∷ s) = counts.Args ∷ outline s
outline (MoreArgs ∷ s) = counts.Args ∷ outline s
outline (Params ∷ s) = counts.Params 0 ∷ outline s
outline (Param c ∷ s) = counts.Params c ∷ drop 1 (outline s)
outline (MoreParams c ∷ s) = counts.Params c ∷ outline s
outline (Count n ∷ s) = counts.Count n ∷ outline s
outline (Build r ∷ s) = outline s
outline (Parent ∷ s) = outline s
outline (Fields ∷ s) = outline s
outline (Procedures ∷ s) = outline s
outline (Program c ∷ s) = counts.Program c ∷ outline s

-- classes are still to come, and nothing before them
abbrev pub AwaitsClasses : List counts.CountPart → Type 0
AwaitsClasses u = (c : ℕ) × (v : List counts.CountPart) × (u ≡ counts.Program c ∷ v)

-- a stack after n nodes: indexes are no deeper than there are nodes, and what belongs together is
-- there
abbrev pub Fits : ℕ → List Part → Type 0
Fits n [] = ⊤
Fits n (ASign sign.LeftBracket ∷ s) =
    (outline s ≡ counts.Level 9 0 ∷ counts.Any ∷ drop 2 (outline s)) × Fits n s
Fits n (Level k p i ∷ s) = (i ≤ n + 1) × Fits n s
Fits n (More k p i ∷ s) = (i ≤ n + 1) × Fits n s
Fits n (Index p i ∷ s) = (i ≤ n) × Fits n s
Fits n (Single d l ∷ s) = ⊥
Fits n (Block d l ∷ s) = Fits 0 s
Fits n (Stmts d l ∷ s) = Fits 0 s
Fits n (Param c ∷ s) = (outline s ≡ counts.Params (suc c) ∷ drop 1 (outline s)) × Fits n s
Fits n (Count m ∷ s) = Fits m s
Fits n (Parent ∷ s) = AwaitsClasses (outline s) × Fits n s
Fits n (Fields ∷ s) = AwaitsClasses (outline s) × Fits n s
Fits n (Procedures ∷ s) = AwaitsClasses (outline s) × Fits 0 s
Fits n (Program c ∷ s) = s ≡ []
Fits n (_ ∷ s) = Fits n s

pub later : (n m : ℕ) (s : List Part) → n ≤ m → Fits n s → Fits m s
later n m [] less h = tt
later n m (ASign sign.LeftBracket ∷ s) less h = (h.0, later n m s less h.1)
later n m (Level k p i ∷ s) less h = (omega (arith, less, h.0), later n m s less h.1)
later n m (More k p i ∷ s) less h = (omega (arith, less, h.0), later n m s less h.1)
later n m (Index p i ∷ s) less h = (omega (arith, less, h.0), later n m s less h.1)
later n m (Single d l ∷ s) less h = h
later n m (Block d l ∷ s) less h = h
later n m (Stmts d l ∷ s) less h = h
later n m (Param c ∷ s) less h = (h.0, later n m s less h.1)
later n m (Count c ∷ s) less h = h
later n m (Parent ∷ s) less h = (h.0, later n m s less h.1)
later n m (Fields ∷ s) less h = (h.0, later n m s less h.1)
later n m (Procedures ∷ s) less h = h
later n m (Program c ∷ s) less h = h
later n m (part ∷ s) less h = later n m s less h

-- a step of the reader that is not wrong is one of the counts
abbrev pub Follows : Step → counts.CountStep → Type 0
Follows Wrong to = ⊤
Follows (Next mark n s vs) (counts.To which m u) =
    ((b : Bool) → is_some (passed mark b) ≡ which) × (n ≡ m) × (outline s ≡ u) × Fits n s

-- ---- limits

by_test : (t : Bool) (which : LimitKind) (b : Bool) → is_some (passed (cond t Within (Past which)) b) ≡ not t
by_test true which b = refl
by_test false which b = refl

mark_is : (most count : ℕ) (which : LimitKind) (b : Bool)
    → is_some (passed (mark_at_most most count which Within) b) ≡ counts.is_full most count
mark_is most count which b = by_test (nat_lt count most) which b

both_tests : (t u : Bool) (first second : LimitKind) (b : Bool)
    → is_some (passed (cond t (cond u Within (Past second)) (Past first)) b) ≡ (not t || not u)
both_tests true true first second b = refl
both_tests true false first second b = refl
both_tests false u first second b = refl

-- a name that may have a node is in few enough indexes
by_name : (t : Bool) (n i : ℕ) (b : Bool) → nat_lt n MOST_NODES ≡ t → i ≤ n + 1
    → is_some (passed (cond t (cond (nat_lt i MOST_INDEX_DEPTH) Within Element) (Past limit.Nodes)) b) ≡ not t
by_name true n i b e h =
    let few : n < 64 = ltb-true n MOST_NODES e in
    let shallow : i < 65 = omega (arith, few, h) in
    ap (λ u. is_some (passed (cond u Within Element) b)) (lt-ltb i MOST_INDEX_DEPTH shallow)
by_name false n i b e h = refl

name_is : (n i : ℕ) (b : Bool) → i ≤ n + 1 → is_some (passed (name_mark n i) b) ≡ counts.is_full MOST_NODES n
name_is n i b h = by_name (nat_lt n MOST_NODES) n i b refl h

-- ---- steps

goes_on : (n : ℕ) (s : List Part) (vs : List ParsedValue) → Fits n s
    → Follows (Next Within n s vs) (counts.To false n (outline s))
goes_on n s vs h = (λ b. refl, refl, refl, h)

mores_outline : (k p i : ℕ) (s : List Part) → outline (mores k p i s) ≡ counts.count_mores k p (outline s)
mores_outline zero p i s = refl
mores_outline (suc k) p i s = mores_outline k p i (More (suc k) p i ∷ s)

mores_fit : (k p i n : ℕ) (s : List Part) → i ≤ n + 1 → Fits n s → Fits n (mores k p i s)
mores_fit zero p i n s a h = h
mores_fit (suc k) p i n s a h = mores_fit k p i n (More (suc k) p i ∷ s) a (a, h)

node : (k p i n : ℕ) (s : List Part) (vs : List ParsedValue) → i ≤ n + 1 → Fits n s
    → Follows (Next (node_mark n) (suc n) (mores k p i s) vs) (counts.node n (counts.count_mores k p (outline s)))
node k p i n s vs a h = (
  λ b. mark_is MOST_NODES n limit.Nodes b,
  refl,
  mores_outline k p i s,
  mores_fit k p i (suc n) s (omega (arith, a)) (later n (suc n) s (omega arith) h),
)

operand_follows : (k p i : ℕ) (s : List Part) (n : ℕ) (vs : List ParsedValue) (at : ℕ) (kind : TokenKind) → i ≤ n + 1
    → Fits n s → Follows (operand k p i s n vs at kind) (counts.count_operand k p (outline s) n kind)
operand_follows k p i s n vs at (token.Number w) a h = node k p i n s vs a h
operand_follows k p i s n vs at (token.Word word.Nil) a h = node k p i n s vs a h
operand_follows k p i s n vs at (token.Name x) a h = (
  λ b. name_is n i b a,
  refl,
  ap (λ u. counts.Index p ∷ u) (mores_outline k p i s),
  (omega (arith, a), mores_fit k p i (suc n) s (omega (arith, a)) (later n (suc n) s (omega arith) h)),
)
operand_follows k p i s n vs at (token.Sign sign.LeftParen) a h = (
  λ b. mark_is MOST_PARENS p limit.Parens b,
  refl,
  ap (λ u. counts.Level 9 (suc p) ∷ counts.Any ∷ u) (mores_outline k p i s),
  (a, mores_fit k p i n s a h),
)
operand_follows k p i s n vs at kind a h = tt

more_follows : (k p i : ℕ) (s : List Part) (n : ℕ) (vs : List ParsedValue) (at : ℕ) (other : Step)
    (to : counts.CountStep)
    (o : Option BinOp) → i ≤ n + 1 → Fits n s → Follows other to
    → Follows (more k p i s n vs at other o) (counts.count_more k p (outline s) n to o)
more_follows k p i s n vs at other to None a h below = below
more_follows k p i s n vs at other to (Some op) a h below = (
  λ b. mark_is MOST_NODES n limit.Nodes b,
  refl,
  refl,
  (omega (arith, a), (omega (arith, a), later n (suc n) s (omega arith) h)),
)

index_follows : (p i : ℕ) (s : List Part) (n : ℕ) (vs : List ParsedValue) (other : Step) (to : counts.CountStep)
    (kind : TokenKind)
    → i ≤ n → Fits n s → Follows other to
    → Follows (index p i s n vs other kind) (counts.count_index p (outline s) n to kind)
index_follows p i s n vs other to (token.Sign sign.LeftBracket) a h below =
    (λ b. refl, refl, refl, (omega (arith, a), h))
index_follows p i s n vs other to kind a h below = below

name_follows : (s : List Part) (n : ℕ) (vs : List ParsedValue) (at : ℕ) (kind : TokenKind) → Fits n s
    → Follows (name s n vs at kind) (counts.To false n (outline s))
name_follows s n vs at (token.Name x) h = (λ b. refl, refl, refl, h)
name_follows s n vs at kind h = tt

type_follows : (s : List Part) (n : ℕ) (vs : List ParsedValue) (at : ℕ) (kind : TokenKind) → Fits n s
    → Follows (a_type s n vs at Within Wrong kind) (counts.To false n (counts.Brackets ∷ outline s))
type_follows s n vs at (token.Name x) h = (λ b. refl, refl, refl, h)
type_follows s n vs at (token.Word word.Int) h = (λ b. refl, refl, refl, h)
type_follows s n vs at kind h = tt

brackets_follows : (s : List Part) (n : ℕ) (vs : List ParsedValue) (other : Step) (to : counts.CountStep)
    (kind : TokenKind)
    → Fits n s → Follows other to → Follows (brackets s n vs other kind) (counts.count_brackets (outline s) n to kind)
brackets_follows s n vs other to (token.Sign sign.LeftBracket) h below = (λ b. refl, refl, refl, h)
brackets_follows s n vs other to kind h below = below

made_follows : (s : List Part) (n : ℕ) (vs : List ParsedValue) (at : ℕ) (kind : TokenKind) → Fits n s
    → Follows (made_read s n vs at kind) (counts.To false n (counts.Index 0 ∷ outline s))
made_follows s n vs at (token.Name x) h = (λ b. refl, refl, refl, h)
made_follows s n vs at (token.Word word.Int) h = (λ b. refl, refl, refl, (refl, (omega arith, h)))
made_follows s n vs at kind h = tt

sized_follows : (s : List Part) (n : ℕ) (vs : List ParsedValue) (other : Step) (to : counts.CountStep)
    (kind : TokenKind)
    → Fits n s → Follows other to → Follows (sized s n vs other kind) (counts.count_index 0 (outline s) n to kind)
sized_follows s n vs other to (token.Sign sign.LeftBracket) h below = (λ b. refl, refl, refl, (omega arith, h))
sized_follows s n vs other to kind h below = below

bracket_follows : (s : List Part) (n : ℕ) (vs : List ParsedValue) (to : counts.CountStep) (kind : TokenKind)
    → outline s ≡ counts.Level 9 0 ∷ counts.Any ∷ drop 2 (outline s) → Fits n s
    → Follows (cond (is_sign sign.LeftBracket kind) (Next Within n s vs) Wrong)
    (counts.count_index 0 (drop 2 (outline s)) n to kind)
bracket_follows s n vs to (token.Sign sign.LeftBracket) e h = (λ b. refl, refl, e, h)
bracket_follows s n vs to kind e h = tt

token_follows : (is : Bool) (s : List Part) (n : ℕ) (vs : List ParsedValue) → Fits n s
    → Follows (cond is (Next Within n s vs) Wrong) (counts.To false n (outline s))
token_follows true s n vs h = goes_on n s vs h
token_follows false s n vs h = tt

-- ---- statements

-- the first token of a statement in a block, before the other statements of it
statement_follows : (d l : ℕ) (s : List Part) (vs : List ParsedValue) (at : ℕ) (other : Step) (to : counts.CountStep)
    (kind : TokenKind) → Fits 0 s → Follows other to
    → Follows (statement d l (more_statements d l s) vs at other kind)
    (counts.count_statement d l (counts.Block d l ∷ outline s) to kind)
statement_follows d l s vs at other to (token.Name x) h below =
    (λ b. mark_is MOST_NESTING d limit.Nesting b, refl, refl, (omega arith, h))
statement_follows d l s vs at other to (token.Word word.If) h below =
    (λ b. mark_is MOST_NESTING d limit.Nesting b, refl, refl, (omega arith, h))
statement_follows d l s vs at other to (token.Word word.From) h below =
    (λ b. mark_is MOST_NESTING d limit.Nesting b, refl, refl, (omega arith, h))
statement_follows d l s vs at other to (token.Word word.Construct) h below = (
  λ b. both_tests (nat_lt d MOST_NESTING) (nat_lt l MOST_LOCALS) limit.Nesting limit.Locals b,
  refl,
  refl,
  h,
)
statement_follows d l s vs at other to (token.Word word.Local) h below = (
  λ b. both_tests (nat_lt d MOST_NESTING) (nat_lt l MOST_LOCALS) limit.Nesting limit.Locals b,
  refl,
  refl,
  (omega arith, h),
)
statement_follows d l s vs at other to (token.Word word.New) h below =
    (λ b. mark_is MOST_NESTING d limit.Nesting b, refl, refl, h)
statement_follows d l s vs at other to (token.Word word.Delete) h below =
    (λ b. mark_is MOST_NESTING d limit.Nesting b, refl, refl, h)
statement_follows d l s vs at other to (token.Word word.Copy) h below =
    (λ b. mark_is MOST_NESTING d limit.Nesting b, refl, refl, h)
statement_follows d l s vs at other to (token.Word word.Uncopy) h below =
    (λ b. mark_is MOST_NESTING d limit.Nesting b, refl, refl, h)
statement_follows d l s vs at other to (token.Word word.Call) h below =
    (λ b. mark_is MOST_NESTING d limit.Nesting b, refl, refl, h)
statement_follows d l s vs at other to (token.Word word.Uncall) h below =
    (λ b. mark_is MOST_NESTING d limit.Nesting b, refl, refl, h)
statement_follows d l s vs at other to (token.Word word.Skip) h below =
    (λ b. mark_is MOST_NESTING d limit.Nesting b, refl, refl, h)
statement_follows d l s vs at other to kind h below = below

assigned_follows : (at : ℕ) (s : List Part) (n : ℕ) (vs : List ParsedValue) (kind : TokenKind) → Fits n s
    → Follows (assigned at s n vs (update_operator kind) (swapped at s n vs kind))
    (counts.count_assigned (outline s) n kind)
assigned_follows at s n vs (token.Sign sign.AddTo) h = (λ b. refl, refl, refl, (omega arith, h))
assigned_follows at s n vs (token.Sign sign.SubFrom) h = (λ b. refl, refl, refl, (omega arith, h))
assigned_follows at s n vs (token.Sign sign.XorInto) h = (λ b. refl, refl, refl, (omega arith, h))
assigned_follows at s n vs (token.Sign sign.Swap) h = (λ b. refl, refl, refl, h)
assigned_follows at s n vs kind h = tt

receiver_follows : (at : ℕ) (back : Bool) (l : ℕ) (s : List Part) (n : ℕ) (vs : List ParsedValue) (kind : TokenKind)
    → Fits n s → Follows (receiver at back l s n vs kind) (counts.count_receiver l (outline s) n kind)
receiver_follows at back l s n vs (token.Sign sign.LeftParen) h = (λ b. refl, refl, refl, h)
receiver_follows at back l s n vs (token.Sign sign.DoubleColon) h = (λ b. refl, refl, refl, h)
receiver_follows at back l s n vs (token.Sign sign.LeftBracket) h =
    (λ b. mark_is MOST_LOCALS l limit.Locals b, refl, refl, (omega arith, h))
receiver_follows at back l s n vs kind h = tt

args_follows : (s : List Part) (n : ℕ) (vs : List ParsedValue) (at : ℕ) (kind : TokenKind) → Fits n s
    → Follows (args s n vs at kind) (counts.count_args (outline s) n kind)
args_follows s n vs at (token.Sign sign.RightParen) h = (λ b. refl, refl, refl, h)
args_follows s n vs at (token.Name x) h = (λ b. refl, refl, refl, h)
args_follows s n vs at kind h = tt

more_args_follows : (s : List Part) (n : ℕ) (vs : List ParsedValue) (kind : TokenKind) → Fits n s
    → Follows (more_args s n vs kind) (counts.count_args (outline s) n kind)
more_args_follows s n vs (token.Sign sign.RightParen) h = (λ b. refl, refl, refl, h)
more_args_follows s n vs (token.Sign sign.Comma) h = (λ b. refl, refl, refl, h)
more_args_follows s n vs kind h = tt

-- ---- methods and classes

params_follows : (s : List Part) (n : ℕ) (vs : List ParsedValue) (at : ℕ) (kind : TokenKind) → Fits n s
    → Follows (params s n vs (a_type (field_parts (MoreParams 1 ∷ s)) n (Vars [] ∷ vs) at (param_mark 0) Wrong kind)
    kind) (counts.count_params 0 (outline s) n kind)
params_follows s n vs at (token.Sign sign.RightParen) h = (λ b. refl, refl, refl, h)
params_follows s n vs at (token.Name x) h = (λ b. mark_is MOST_PARAMETERS 0 limit.Parameters b, refl, refl, h)
params_follows s n vs at (token.Word word.Int) h = (λ b. mark_is MOST_PARAMETERS 0 limit.Parameters b, refl, refl, h)
params_follows s n vs at kind h = tt

param_follows : (c : ℕ) (s : List Part) (n : ℕ) (vs : List ParsedValue) (at : ℕ) (kind : TokenKind)
    → outline s ≡ counts.Params (suc c) ∷ drop 1 (outline s) → Fits n s
    → Follows (a_type (field_parts s) n vs at (param_mark c) Wrong kind)
    (counts.count_params c (drop 1 (outline s)) n kind)
param_follows c s n vs at (token.Name x) e h =
    (λ b. mark_is MOST_PARAMETERS c limit.Parameters b, refl, ap (λ u. counts.Brackets ∷ counts.Any ∷ u) e, h)
param_follows c s n vs at (token.Word word.Int) e h =
    (λ b. mark_is MOST_PARAMETERS c limit.Parameters b, refl, ap (λ u. counts.Brackets ∷ counts.Any ∷ u) e, h)
param_follows c s n vs at kind e h = tt

more_params_follows : (c : ℕ) (s : List Part) (n : ℕ) (vs : List ParsedValue) (kind : TokenKind) → Fits n s
    → Follows (more_params c s n vs kind) (counts.count_params c (outline s) n kind)
more_params_follows c s n vs (token.Sign sign.RightParen) h = (λ b. refl, refl, refl, h)
more_params_follows c s n vs (token.Sign sign.Comma) h = (λ b. refl, refl, refl, (refl, h))
more_params_follows c s n vs kind h = tt

-- a step before the classes that are still to come
before_classes : (step : Step) (u : List counts.CountPart) (n : ℕ) (kind : TokenKind) (awaits : AwaitsClasses u)
    → Follows step (counts.count_program awaits.0 awaits.1 n kind) → Follows step (counts.count_walk u n kind)
before_classes step u n kind awaits h =
    let P : List counts.CountPart → Type 0 = λ v. Follows step (counts.count_walk v n kind) in
    subst P (sym awaits.2) h

parent_follows : (s : List Part) (n : ℕ) (vs : List ParsedValue) (other : Step) (kind : TokenKind)
    → AwaitsClasses (outline s) → Fits n s → Follows other (counts.count_walk (outline s) n kind)
    → Follows (parent s n vs other kind) (counts.count_walk (outline s) n kind)
parent_follows s n vs other (token.Word word.Inherits) awaits h below =
    before_classes (parent s n vs other (token.Word word.Inherits)) (outline s) n (token.Word word.Inherits) awaits
    (λ b. refl, refl, ap (λ u. counts.Any ∷ u) awaits.2, h)
parent_follows s n vs other kind awaits h below = below

fields_follow : (s : List Part) (n : ℕ) (vs : List ParsedValue) (at : ℕ) (other : Step) (kind : TokenKind)
    → AwaitsClasses (outline s) → Fits n s → Follows other (counts.count_walk (outline s) n kind)
    → Follows (a_type (field_parts (Fields ∷ s)) n vs at Within other kind) (counts.count_walk (outline s) n kind)
fields_follow s n vs at other (token.Name x) awaits h below =
    before_classes (a_type (field_parts (Fields ∷ s)) n vs at Within other (token.Name x)) (outline s) n
    (token.Name x) awaits
    (λ b. refl, refl, ap (λ u. counts.Brackets ∷ counts.Any ∷ u) awaits.2, (awaits, h))
fields_follow s n vs at other (token.Word word.Int) awaits h below =
    before_classes (a_type (field_parts (Fields ∷ s)) n vs at Within other (token.Word word.Int)) (outline s) n
    (token.Word word.Int) awaits
    (λ b. refl, refl, ap (λ u. counts.Brackets ∷ counts.Any ∷ u) awaits.2, (awaits, h))
fields_follow s n vs at other kind awaits h below = below

procedures_follow : (s : List Part) (n : ℕ) (vs : List ParsedValue) (other : Step) (kind : TokenKind)
    → AwaitsClasses (outline s) → Fits 0 s → Fits n s → Follows other (counts.count_walk (outline s) n kind)
    → Follows (procedures s n vs other kind) (counts.count_walk (outline s) n kind)
procedures_follow s n vs other (token.Word word.Method) awaits first h below =
    before_classes (procedures s n vs other (token.Word word.Method)) (outline s) n (token.Word word.Method) awaits (
      λ b. refl,
      refl,
      ap (λ u. counts.Any ∷ counts.Any ∷ counts.Params 0 ∷ counts.Block 0 0 ∷ u) awaits.2,
      (awaits, first),
    )
procedures_follow s n vs other kind awaits first h below = below

program_follows : (c n : ℕ) (vs : List ParsedValue) (kind : TokenKind)
    → Follows (program c [] n vs Wrong kind) (counts.count_program c [] n kind)
program_follows c n vs (token.Word word.Class) =
    let awaits : AwaitsClasses (counts.Program (suc c) ∷ []) = (suc c, [], refl) in
    (λ b. mark_is MOST_CLASSES c limit.Classes b, refl, refl, (awaits, (awaits, (awaits, refl))))
program_follows c n vs kind = tt

pub walk_follows : (s : List Part) (n : ℕ) (vs : List ParsedValue) (t : Token) → Fits n s
    → Follows (walk s n vs t) (counts.count_walk (outline s) n t.kind)
unfolding walk
walk_follows [] n vs t h = tt
walk_follows (AWord w ∷ s) n vs t h = token_follows (is_word w t.kind) s n vs h
walk_follows (ASign sign.LeftBracket ∷ s) n vs t h =
    bracket_follows s n vs (counts.count_walk (drop 2 (outline s)) n t.kind) t.kind h.0 h.1
walk_follows (ASign w ∷ s) n vs t h = token_follows (is_sign w t.kind) s n vs h
walk_follows (AName ∷ s) n vs t h = name_follows s n vs t.at t.kind h
walk_follows (Level k p i ∷ s) n vs t h = operand_follows k p i s n vs t.at t.kind h.0 h.1
walk_follows (More k p i ∷ s) n vs t h =
    more_follows k p i s n vs t.at (walk s n vs t) (counts.count_walk (outline s) n t.kind) (operator_at k t.kind) h.0
    h.1
    (walk_follows s n vs t h.1)
walk_follows (Index p i ∷ s) n vs t h =
    index_follows p i s n vs (walk s n (build MakeWhole vs) t) (counts.count_walk (outline s) n t.kind) t.kind h.0 h.1
    (walk_follows s n (build MakeWhole vs) t h.1)
walk_follows (Spot ∷ s) n vs t h = name_follows (Index 0 0 ∷ s) n vs t.at t.kind (omega arith, h)
walk_follows (Kind ∷ s) n vs t h = type_follows s n vs t.at t.kind h
walk_follows (Brackets ∷ s) n vs t h =
    brackets_follows s n vs (walk s n vs t) (counts.count_walk (outline s) n t.kind) t.kind h (walk_follows s n vs t h)
walk_follows (Made ∷ s) n vs t h = made_follows s n vs t.at t.kind h
walk_follows (Sized ∷ s) n vs t h =
    sized_follows s n vs (walk s n (build MakeObject vs) t) (counts.count_walk (outline s) n t.kind) t.kind h
    (walk_follows s n (build MakeObject vs) t h)
walk_follows (Single d l ∷ s) n vs t h = absurd h
walk_follows (Block d l ∷ s) n vs t h =
    statement_follows d l (Build MakeBlock ∷ s) (Many [] ∷ vs) t.at Wrong (counts.count_walk (outline s) n t.kind)
    t.kind h tt
walk_follows (Stmts d l ∷ s) n vs t h =
    statement_follows d l s vs t.at (walk s n vs t) (counts.count_walk (outline s) n t.kind) t.kind h
    (walk_follows s n vs t (later 0 n s (omega arith) h))
walk_follows (Assign at ∷ s) n vs t h = assigned_follows at s n vs t.kind h
walk_follows (Branches first second third d l ∷ s) n vs t h =
    token_follows (is_word first t.kind) (branch_parts second third d l n s) n vs (omega arith, h)
walk_follows (Scope d l ∷ s) n vs t h =
    statement_follows (suc d) (suc l) (Build MakeBlock ∷ scope_end n s) (Many [] ∷ vs) t.at Wrong
    (counts.To false n (outline s)) t.kind (omega arith, h) tt
walk_follows (Receiver at back l ∷ s) n vs t h = receiver_follows at back l s n vs t.kind h
walk_follows (Args ∷ s) n vs t h = args_follows s n vs t.at t.kind h
walk_follows (MoreArgs ∷ s) n vs t h = more_args_follows s n vs t.kind h
walk_follows (Params ∷ s) n vs t h = params_follows s n vs t.at t.kind h
walk_follows (Param c ∷ s) n vs t h = param_follows c s n vs t.at t.kind h.0 h.1
walk_follows (MoreParams c ∷ s) n vs t h = more_params_follows c s n vs t.kind h
walk_follows (Count m ∷ s) n vs t h = walk_follows s m vs t h
walk_follows (Build r ∷ s) n vs t h = walk_follows s n (build r vs) t h
walk_follows (Parent ∷ s) n vs t h =
    parent_follows s n vs (walk s n (AParent None ∷ vs) t) t.kind h.0 h.1 (walk_follows s n (AParent None ∷ vs) t h.1)
walk_follows (Fields ∷ s) n vs t h =
    fields_follow s n vs t.at (walk s n vs t) t.kind h.0 h.1 (walk_follows s n vs t h.1)
walk_follows (Procedures ∷ s) n vs t h =
    let fit = later 0 n s (omega arith) h.1 in
    procedures_follow s n vs (walk s n vs t) t.kind h.0 h.1 fit (walk_follows s n vs t fit)
walk_follows (Program c ∷ []) n vs t h = program_follows c n vs t.kind
walk_follows (Program c ∷ (x ∷ s)) n vs t h = let none : x ∷ s ≡ [] = h in cc
