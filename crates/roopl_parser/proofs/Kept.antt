-- If reading passes no limit, the syntax tree keeps them.
use Rattle.std.specs.Prelude.{◌≡◌, ℕ, suc, ◌+◌, ◌<◌, ◌≤◌, max, Bool, true, false, List, [], ◌∷◌, ◌++◌, length, Option}
use Rattle.std.specs.Prelude.{Some, None, Result, Ok, All, cond, nat_lt, refl}
use Rattle.std.proofs.lemmas.List.Elements.{All-cons, All-nil}
use Rattle.std.proofs.Common.{sym, ap, ◌∙◌, arith, ltb-true}
use Rattle.roopl_lexer.specs.rpp_tree.declared.limits.LimitKind.{LimitKind}
use Rattle.roopl_lexer.specs.rpp_tree.declared.limits.LimitKind.TheVariants as limit
use Rattle.roopl_lexer.specs.rpp_tree.declared.limits.TheConstants.{MOST_NODES, MOST_INDEX_DEPTH, MOST_CLASSES, MOST_PARAMETERS}
use Rattle.roopl_lexer.specs.rpp_tree.declared.limits.TheConstants.{MOST_LOCALS, MOST_NESTING, MOST_PARENS}
use Rattle.roopl_lexer.specs.rpp_tree.Tree.{nodes, index_nodes, creation_nodes, statement_depth}
use Rattle.roopl_lexer.specs.rpp_tree.Limits.{index_depth, lvalue_index_depth, creation_index_depth, statement_locals, locals}
use Rattle.roopl_lexer.specs.rpp_tree.Limits.{IsSmallMethod}
use Rattle.roopl_lexer.specs.rpp_tree.declared.tree.Ident.{Ident}
use Rattle.roopl_lexer.specs.rpp_tree.declared.tree.Var.{Var}
use Rattle.roopl_lexer.specs.rpp_tree.declared.tree.VarType.TheVariants as kind
use Rattle.roopl_lexer.specs.rpp_tree.declared.tree.BinOp.{BinOp}
use Rattle.roopl_lexer.specs.rpp_tree.Tree.{Expression, Number, Null, Lvalue, Creation, Statement, Statements, Skip, Procedure}
use Rattle.roopl_lexer.specs.rpp_tree.Tree.{ClassText}
use Rattle.roopl_lexer.specs.rpp_tree.Views.{statements_of}
use Rattle.roopl_lexer.specs.declared.token.Token.{Token}
use Rattle.roopl_lexer.specs.declared.token.TokenKind.{TokenKind}
use Rattle.roopl_lexer.specs.declared.token.TokenKind.TheVariants.{Word, Name, Sign}
use Rattle.roopl_lexer.specs.declared.token.Keyword.{Keyword}
use Rattle.roopl_lexer.specs.declared.token.Keyword.TheVariants as word
use Rattle.roopl_lexer.specs.declared.token.Symbol.TheVariants as sign
use Rattle.roopl_parser.specs.declared.error.ParseError.{ParseError}
use Rattle.roopl_parser.specs.Operators.{Span, tok, ident, operator_at}
use Rattle.roopl_parser.specs.Grammar.{IsExpr, number, null, read, parens, weaker, binary, IsIndexed, whole, item}
use Rattle.roopl_parser.specs.Grammar.{IsPlace, place, ints, objects, IsVar, var, one, sized as many, IsMade, words}
use Rattle.roopl_parser.specs.Grammar.{named, IsTarget, own, on, IsAssigned, update, swap, IsStatement, assign}
use Rattle.roopl_parser.specs.Grammar.{conditional, repeat, construct, declare, make, delete, copy, uncopy, call}
use Rattle.roopl_parser.specs.Grammar.{uncall, skip, IsBranches, branches, IsScope, scope, IsBlock, block, IsStatements}
use Rattle.roopl_parser.specs.Grammar.{end as finish, then, IsMoreParams, last_param, next_param, IsParams, no_param}
use Rattle.roopl_parser.specs.Grammar.{params as some_params, IsMethod, method, IsMethods, no_method, methods, IsClass}
use Rattle.roopl_parser.specs.Grammar.{class, IsClasses, no_class, classes}
use Rattle.roopl_parser.specs.Reader.{ParsedValue, Part, Mark, Within, AnExpr, AnIdent, APlace, AType, AVar, Vars}
use Rattle.roopl_parser.specs.Reader.{ACreation}
use Rattle.roopl_parser.specs.Reader.{AStatement, Many, ABlock, AParent, Methods, Classes, AWord, ASign, AName, Level}
use Rattle.roopl_parser.specs.Reader.{More, Index, Spot, Kind, Brackets, Made, Sized, Single, Block, Stmts, Assign}
use Rattle.roopl_parser.specs.Reader.{Branches, Scope, Receiver, Params, Param, MoreParams, Count, Build, Parent}
use Rattle.roopl_parser.specs.Reader.{Fields, Procedures, Program, MakeRead, MakeElement, MakeBinary, NoVars, MakeInts}
use Rattle.roopl_parser.specs.Reader.{MakeObjects, MakeUpdate, MakeSwap, MakeIf, MakeFrom, MakeConstruct, MakeLocal}
use Rattle.roopl_parser.specs.Reader.{MakeNew, MakeDelete, MakeCopy, MakeUncopy, AddStatement, MakeBlock, NoMethods}
use Rattle.roopl_parser.specs.Reader.{MakeMethod, MakeClass}
use Rattle.roopl_parser.specs.Fits.{Fits, BlockFits}
use Rattle.roopl_parser.specs.Parens.{parens_of, index_parens, place_parens, made_parens, target_parens}
use Rattle.roopl_parser.specs.Parens.{assigned_parens, statement_parens, branch_parens, scope_parens, block_parens}
use Rattle.roopl_parser.specs.Parens.{list_parens, method_parens, methods_parens, class_parens, classes_parens}
use Rattle.roopl_parser.specs.Reader.{Past, Element, mark_at_most, node_mark, name_mark, parens_mark, nesting_mark}
use Rattle.roopl_parser.specs.Reader.{locals_mark, scope_mark, param_mark, class_mark, passed, stopped, led, scan, walk}
use Rattle.roopl_parser.specs.Reader.{starts, is_word, is_sign, here, var_parts, field_parts, send_parts, branch_parts}
use Rattle.roopl_parser.specs.Reader.{scope_end, class_parts, method_parts, more}
use Rattle.roopl_parser.proofs.Moves.{run_build, run_count, run_level_suc, run_spot, run_block, run_stmts, run_branches}
use Rattle.roopl_parser.proofs.Moves.{run_scope, run_procedures}
use Rattle.roopl_parser.proofs.Complete.{Below, operator_below, method_begins, read_word, read_sign, read_name}
use Rattle.roopl_parser.proofs.Complete.{param_reads, first_param, type_reads, read_update, read_swap, expr_reads}
use Rattle.roopl_parser.proofs.Complete.{value_reads, indexed_reads, var_reads, params_read, made_reads}
use Rattle.roopl_parser.proofs.Complete.{assigned_begins, place_begins, statement_begins, scope_begins, branches_begin}
use Rattle.roopl_parser.proofs.Complete.{below_statements, single_reads, block_reads, method_reads, fields_read}
use Rattle.roopl_parser.proofs.Complete.{parent_reads, Closed, closed_methods, closed_classes, other_classes, no_parent}
use Rattle.roopl_parser.proofs.Complete.{class_reads}

-- ---- marks that stop nothing

stopped_ok : (at : ℕ) (m : Option LimitKind) (next : Result ParsedValue ParseError) (q : ParsedValue)
    → stopped at m next ≡ Ok q
    → (m ≡ None) × (next ≡ Ok q)
stopped_ok at None next q h = (refl, h)
stopped_ok at (Some which) next q h = cc

by_test : (t : Bool) (which : LimitKind) (other : Mark) (b : Bool) → passed (cond t other (Past which)) b ≡ None
    → (t ≡ true) × (passed other b ≡ None)
by_test true which other b h = (refl, h)
by_test false which other b h = cc

by_element : (t : Bool) → passed (cond t Within Element) true ≡ None → t ≡ true
by_element true h = refl
by_element false h = cc

most_kept : (most count : ℕ) (which : LimitKind) (other : Mark) (b : Bool)
    → passed (mark_at_most most count which other) b ≡ None → (count < most) × (passed other b ≡ None)
most_kept most count which other b h = let r = by_test (nat_lt count most) which other b h in
    (ltb-true count most r.0, r.1)

-- the counts of an expression keep their limits
pub record Room (p n i : ℕ) : Type 0 where
  pub parens : p ≤ MOST_PARENS
  pub nodes : n ≤ MOST_NODES
  pub indexes : i ≤ MOST_INDEX_DEPTH

module _ (end : ℕ) (q : ParsedValue) where
  -- reading goes on to the end
  abbrev pub Good : List Token → ℕ → List Part → List ParsedValue → Type 0
  Good ts n s vs = scan true end ts n s vs ≡ Ok q

  node_in : (at n : ℕ) (b : Bool) (next : Result ParsedValue ParseError)
      → stopped at (passed (node_mark n) b) next ≡ Ok q
      → (n < MOST_NODES) × (next ≡ Ok q)
  node_in at n b next h = let r = stopped_ok at (passed (node_mark n) b) next q h in
      ((most_kept MOST_NODES n limit.Nodes Within b r.0).0, r.1)

  name_in : (at n i : ℕ) (b : Bool) (next : Result ParsedValue ParseError)
      → stopped at (passed (name_mark n i) b) next ≡ Ok q
      → (n < MOST_NODES) × (next ≡ Ok q)
  name_in at n i b next h = let r = stopped_ok at (passed (name_mark n i) b) next q h in
      ((most_kept MOST_NODES n limit.Nodes (cond (nat_lt i MOST_INDEX_DEPTH) Within Element) b r.0).0, r.1)

  item_in : (at n i : ℕ) (next : Result ParsedValue ParseError) → stopped at (passed (name_mark n i) true) next ≡ Ok q
      → (n < MOST_NODES) × (i < MOST_INDEX_DEPTH) × (next ≡ Ok q)
  item_in at n i next h =
      let r = stopped_ok at (passed (name_mark n i) true) next q h in
      let m = most_kept MOST_NODES n limit.Nodes (cond (nat_lt i MOST_INDEX_DEPTH) Within Element) true r.0 in
      (m.0, ltb-true i MOST_INDEX_DEPTH (by_element (nat_lt i MOST_INDEX_DEPTH) m.1), r.1)

  parens_in : (at p : ℕ) (b : Bool) (next : Result ParsedValue ParseError)
      → stopped at (passed (parens_mark p) b) next ≡ Ok q
      → (p < MOST_PARENS) × (next ≡ Ok q)
  parens_in at p b next h = let r = stopped_ok at (passed (parens_mark p) b) next q h in
      ((most_kept MOST_PARENS p limit.Parens Within b r.0).0, r.1)

  nesting_in : (at d : ℕ) (b : Bool) (next : Result ParsedValue ParseError)
      → stopped at (passed (nesting_mark d) b) next ≡ Ok q → (d < MOST_NESTING) × (next ≡ Ok q)
  nesting_in at d b next h = let r = stopped_ok at (passed (nesting_mark d) b) next q h in
      ((most_kept MOST_NESTING d limit.Nesting Within b r.0).0, r.1)

  locals_in : (at l : ℕ) (b : Bool) (next : Result ParsedValue ParseError)
      → stopped at (passed (locals_mark l) b) next ≡ Ok q
      → (l < MOST_LOCALS) × (next ≡ Ok q)
  locals_in at l b next h = let r = stopped_ok at (passed (locals_mark l) b) next q h in
      ((most_kept MOST_LOCALS l limit.Locals Within b r.0).0, r.1)

  scope_in : (at d l : ℕ) (b : Bool) (next : Result ParsedValue ParseError)
      → stopped at (passed (scope_mark d l) b) next ≡ Ok q → (d < MOST_NESTING) × (l < MOST_LOCALS) × (next ≡ Ok q)
  scope_in at d l b next h =
      let r = stopped_ok at (passed (scope_mark d l) b) next q h in
      let m = most_kept MOST_NESTING d limit.Nesting (locals_mark l) b r.0 in
      (m.0, (most_kept MOST_LOCALS l limit.Locals Within b m.1).0, r.1)

  param_in : (at c : ℕ) (b : Bool) (next : Result ParsedValue ParseError)
      → stopped at (passed (param_mark c) b) next ≡ Ok q
      → c < MOST_PARAMETERS
  param_in at c b next h = let r = stopped_ok at (passed (param_mark c) b) next q h in
      (most_kept MOST_PARAMETERS c limit.Parameters Within b r.0).0

  class_in : (at c : ℕ) (b : Bool) (next : Result ParsedValue ParseError)
      → stopped at (passed (class_mark c) b) next ≡ Ok q
      → (c < MOST_CLASSES) × (next ≡ Ok q)
  class_in at c b next h = let r = stopped_ok at (passed (class_mark c) b) next q h in
      ((most_kept MOST_CLASSES c limit.Classes Within b r.0).0, r.1)

  -- ---- expressions

  more_step : (a : Span) (kind : TokenKind) (op : BinOp) (mid : List Token) (n k p i : ℕ) (s : List Part)
      (vs : List ParsedValue) → operator_at (suc k) kind ≡ Some op → Good (tok a kind ∷ mid) n (More (suc k) p i ∷ s) vs
      → (n < MOST_NODES) × Good mid (suc n) (Level k p i ∷ Build (MakeBinary a.at op) ∷ More (suc k) p i ∷ s) vs
  unfolding scan walk
  more_step a kind op mid n k p i s vs o h =
      let e = ap (λ x. led true a.at (here (is_sign sign.LeftBracket) mid) (scan true end mid)
      (more (suc k) p i s n vs a.at (walk s n vs (tok a kind)) x)) o in
      node_in a.at n (here (is_sign sign.LeftBracket) mid)
      (scan true end mid (suc n) (Level k p i ∷ Build (MakeBinary a.at op) ∷ More (suc k) p i ∷ s) vs) (sym e ∙ h)

  expr_kept : {k : ℕ} {ts rest : List Token} {e : Expression} (d : IsExpr k ts rest e) (p i n : ℕ) → Room p n i
      → Below k rest → (s : List Part) (vs : List ParsedValue) → Good ts n (Level k p i ∷ s) vs
      → Room (p + parens_of d) (n + nodes e) (i + index_depth e)
  unfolding scan walk
  expr_kept (number {a} {w} {rest}) p i n f b s vs h =
      let r = node_in a.at n (here (is_sign sign.LeftBracket) rest)
      (scan true end rest (suc n) s (AnExpr (Number a.at w) ∷ vs)) h in
      record { parens = omega (arith, f.parens); nodes = omega (arith, r.0); indexes = omega (arith, f.indexes) }
  expr_kept (null {a} {rest}) p i n f b s vs h =
      let r = node_in a.at n (here (is_sign sign.LeftBracket) rest)
      (scan true end rest (suc n) s (AnExpr (Null a.at) ∷ vs)) h in
      record { parens = omega (arith, f.parens); nodes = omega (arith, r.0); indexes = omega (arith, f.indexes) }
  expr_kept (read {a} {name} (whole {rest})) p i n f b s vs h =
      let r = name_in a.at n i (here (is_sign sign.LeftBracket) rest)
      (scan true end rest (suc n) (Index p i ∷ Build MakeRead ∷ s) (AnIdent (ident a name) ∷ vs)) h in
      record { parens = omega (arith, f.parens); nodes = omega (arith, r.0); indexes = omega (arith, f.indexes) }
  expr_kept (read {a} {name} {rest} (item {a = x} {b = z} {ts} {e} d)) p i n f b s vs h =
      let r = item_in a.at n i (scan true end (tok x (Sign sign.LeftBracket) ∷ ts) (suc n)
      (Index p i ∷ Build MakeRead ∷ s) (AnIdent (ident a name) ∷ vs)) h in
      let g : Room p (suc n) (suc i) = record {
        parens = f.parens;
        nodes = omega (arith, r.0);
        indexes = omega (arith, r.1);
      } in
      let m = expr_kept d p (suc i) (suc n) g (refl, λ j l. refl)
      (ASign sign.RightBracket ∷ Build MakeElement ∷ Build MakeRead ∷ s) (AnIdent (ident a name) ∷ vs) r.2 in
      record { parens = m.parens; nodes = omega (arith, m.nodes); indexes = omega (arith, m.indexes) }
  expr_kept (parens {a} {b = z} {ts} {rest} {e} d) p i n f b s vs h =
      let r = parens_in a.at p (here (is_sign sign.LeftBracket) ts)
      (scan true end ts n (Level 9 (suc p) i ∷ ASign sign.RightParen ∷ s) vs) h in
      let g : Room (suc p) n i = record { parens = omega (arith, r.0); nodes = f.nodes; indexes = f.indexes } in
      let m = expr_kept d (suc p) i n g (refl, λ j l. refl) (ASign sign.RightParen ∷ s) vs r.1 in
      record { parens = omega (arith, m.parens); nodes = m.nodes; indexes = m.indexes }
  expr_kept (weaker {k} {ts} {rest} {e} d) p i n f b s vs h =
      expr_kept d p i n f (b.0, λ j l. b.1 j (omega arith)) (More (suc k) p i ∷ s) vs
      (sym (run_level_suc true end ts n k p i s vs) ∙ h)
  expr_kept (binary {k} {a} {kind} {op} {ts} {mid} {rest} {l} {r} d o dr) p i n f b s vs h =
      let m = expr_kept d p i n f (operator_below (suc k) a kind op mid o) s vs h in
      let e = expr_reads true end d p i n (λ t. m.parens) (λ t. m.nodes) (λ t. m.indexes)
      (operator_below (suc k) a kind op mid o) s vs in
      let y = more_step a kind op mid (n + nodes l) k p i s (AnExpr l ∷ vs) o (sym e ∙ h) in
      let g : Room p (suc (n + nodes l)) i = record {
        parens = f.parens;
        nodes = omega (arith, y.0);
        indexes = f.indexes;
      } in
      let x = expr_kept dr p i (suc (n + nodes l)) g (b.0, λ j l. b.1 j (omega arith))
      (Build (MakeBinary a.at op) ∷ More (suc k) p i ∷ s) (AnExpr l ∷ vs) y.1 in
      record {
        parens = omega (arith, m.parens, x.parens);
        nodes = omega (arith, x.nodes);
        indexes = omega (arith, m.indexes, x.indexes);
      }

  value_kept : {ts rest : List Token} {e : Expression} (d : IsExpr 9 ts rest e) (p i n : ℕ) → Room p n i → Below 10 rest
      → (s : List Part) (vs : List ParsedValue) → Good ts n (Level 9 p i ∷ s) vs
      → Room (p + parens_of d) (n + nodes e) (i + index_depth e) × Good rest (n + nodes e) s (AnExpr e ∷ vs)
  value_kept {ts} {rest} d p i n f b s vs h =
      let m = expr_kept d p i n f (b.0, λ j l. b.1 j (omega arith)) s vs h in
      (m, sym (value_reads true end d p i n (λ t. m.parens) (λ t. m.nodes) (λ t. m.indexes) b s vs) ∙ h)

  -- the first token of an index
  open_index : (x : Span) (ts : List Token) (n p i : ℕ) (s : List Part) (vs : List ParsedValue)
      → Good (tok x (Sign sign.LeftBracket) ∷ ts) n (Index p i ∷ s) vs
      → Good ts n (Level 9 p (suc i) ∷ ASign sign.RightBracket ∷ Build MakeElement ∷ s) vs
  unfolding scan walk
  open_index x ts n p i s vs h = h

  indexed_kept : {name : Ident} {ts rest : List Token} {l : Lvalue} (x : IsIndexed name ts rest l) (n : ℕ)
      → n ≤ MOST_NODES → here (is_sign sign.LeftBracket) rest ≡ false → (s : List Part) (vs : List ParsedValue)
      → Good ts n (Index 0 0 ∷ s) (AnIdent name ∷ vs) → Room (index_parens x) (n + index_nodes l) (lvalue_index_depth l)
      × Good rest (n + index_nodes l) s (APlace l ∷ vs)
  indexed_kept (whole {name} {rest}) n f b s vs h =
      let g : Room 0 (n + 0) 0 = record { parens = omega arith; nodes = omega (arith, f); indexes = omega arith } in (
        g,
        sym (indexed_reads true end (whole {name = name} {rest = rest}) 0 0 n (λ t. omega arith) (λ t. g.nodes)
            (λ t. omega arith) b s vs) ∙ h,
      )
  indexed_kept (item {name} {a = x} {b = z} {ts} {rest} {e} d) n f b s vs h =
      let g : Room 0 n 1 = record { parens = omega arith; nodes = f; indexes = omega arith } in
      let m = expr_kept d 0 1 n g (refl, λ j l. refl) (ASign sign.RightBracket ∷ Build MakeElement ∷ s)
      (AnIdent name ∷ vs) (open_index x ts n 0 0 s (AnIdent name ∷ vs) h) in
      let r : Room (parens_of d) (n + nodes e) (1 + index_depth e) =
      record { parens = omega (arith, m.parens); nodes = m.nodes; indexes = m.indexes } in (
        r,
        sym (indexed_reads true end (item {name = name} {a = x} {b = z} d) 0 0 n (λ t. omega (arith, r.parens))
            (λ t. r.nodes) (λ t. omega (arith, r.indexes)) b s vs) ∙ h,
      )

  place_kept : {ts rest : List Token} {l : Lvalue} (x : IsPlace ts rest l) (n : ℕ) → n ≤ MOST_NODES
      → here (is_sign sign.LeftBracket) rest ≡ false → (s : List Part) (vs : List ParsedValue) → Good ts n (Spot ∷ s) vs
      → Room (place_parens x) (n + index_nodes l) (lvalue_index_depth l)
      × Good rest (n + index_nodes l) s (APlace l ∷ vs)
  place_kept (place {a} {name} {ts} i) n f b s vs h = indexed_kept i n f b s vs
      (sym (run_spot true end (tok a (Name name) ∷ ts) n s vs ∙ read_name true end a name ts n (Index 0 0 ∷ s) vs) ∙ h)

  -- ---- what is made

  open_sized : (a : Span) (ts : List Token) (n : ℕ) (s : List Part) (vs : List ParsedValue)
      → Good (tok a (Sign sign.LeftBracket) ∷ ts) n (Sized ∷ s) vs
      → Good ts n (Level 9 0 0 ∷ ASign sign.RightBracket ∷ Build MakeObjects ∷ s) vs
  unfolding scan walk
  open_sized a ts n s vs h = h

  open_named : (a : Span) (name : List ℕ) (ts : List Token) (n : ℕ) (s : List Part) (vs : List ParsedValue)
      → Good (tok a (Name name) ∷ ts) n (Made ∷ s) vs → Good ts n (Sized ∷ s) (AnIdent (ident a name) ∷ vs)
  unfolding scan walk
  open_named a name ts n s vs h = h

  open_words : (a : Span) (ts : List Token) (n : ℕ) (s : List Part) (vs : List ParsedValue)
      → Good (tok a (Word word.Int) ∷ ts) n (Made ∷ s) vs → Good ts n
      (ASign sign.LeftBracket ∷ Level 9 0 0 ∷ ASign sign.RightBracket ∷ Build MakeInts ∷ s) vs
  unfolding scan walk
  open_words a ts n s vs h = h

  made_room : {ts rest : List Token} {c : Creation} (x : IsMade ts rest c) (s : List Part) (vs : List ParsedValue)
      → Good ts 0 (Made ∷ s) vs → Room (made_parens x) (creation_nodes c) (creation_index_depth c)
  made_room (words {a} {b = y} {c = z} {ts} {rest} {e} d) s vs h =
      let k = open_words a (tok y (Sign sign.LeftBracket) ∷ ts) 0 s vs h in
      let g : Room 0 0 0 = record { parens = omega arith; nodes = omega arith; indexes = omega arith } in
      let m = expr_kept d 0 0 0 g (refl, λ j l. refl) (ASign sign.RightBracket ∷ Build MakeInts ∷ s) vs
      (sym (read_sign true end y sign.LeftBracket ts 0 (Level 9 0 0 ∷ ASign sign.RightBracket ∷ Build MakeInts ∷ s)
      vs) ∙ k) in
      record { parens = omega (arith, m.parens); nodes = omega (arith, m.nodes); indexes = omega (arith, m.indexes) }
  made_room (named {a} {name} (one {rest})) s vs h = record
      { parens = omega arith; nodes = omega arith; indexes = omega arith }
  made_room (named {a} {name} (many {a = y} {b = z} {ts} {rest} {e} d)) s vs h =
      let k = open_sized y ts 0 s (AnIdent (ident a name) ∷ vs)
      (open_named a name (tok y (Sign sign.LeftBracket) ∷ ts) 0 s vs h) in
      let g : Room 0 0 0 = record { parens = omega arith; nodes = omega arith; indexes = omega arith } in
      let m = expr_kept d 0 0 0 g (refl, λ j l. refl) (ASign sign.RightBracket ∷ Build MakeObjects ∷ s)
      (AnIdent (ident a name) ∷ vs) k in
      record { parens = omega (arith, m.parens); nodes = omega (arith, m.nodes); indexes = omega (arith, m.indexes) }

  made_kept : {ts rest : List Token} {c : Creation} (x : IsMade ts rest c)
      → here (is_sign sign.LeftBracket) rest ≡ false → (s : List Part) (vs : List ParsedValue) → Good ts 0 (Made ∷ s) vs
      → Room (made_parens x) (creation_nodes c) (creation_index_depth c)
      × Good rest (0 + creation_nodes c) s (ACreation c ∷ vs)
  made_kept x b s vs h = let m = made_room x s vs h in (
    m,
    sym (made_reads true end x 0 (λ t. m.parens) (λ t. omega (arith, m.nodes)) (λ t. m.indexes) b s vs) ∙ h,
  )

  -- ---- statements without others

  open_receiver : (at : ℕ) (back : Bool) (l : ℕ) (y : Span) (ts : List Token) (s : List Part) (vs : List ParsedValue)
      → Good (tok y (Sign sign.LeftBracket) ∷ ts) 0 (Receiver at back l ∷ s) vs
      → (l < MOST_LOCALS) × Good ts 0 (Level 9 0 1 ∷ ASign sign.RightBracket ∷ Build MakeElement
      ∷ ASign sign.DoubleColon ∷ send_parts at back s) vs
  unfolding scan walk
  open_receiver at back l y ts s vs h = locals_in y.at l (here (is_sign sign.LeftBracket) ts)
      (scan true end ts 0 (Level 9 0 1 ∷ ASign sign.RightBracket ∷ Build MakeElement ∷ ASign sign.DoubleColon
      ∷ send_parts at back s) vs) h

  target_kept : {at : ℕ} {back : Bool} {name : Ident} {ts rest : List Token} {x : Statement}
      (r : IsTarget at back name ts rest x) (d l : ℕ) → d < MOST_NESTING → l ≤ MOST_LOCALS
      → (s : List Part) (vs : List ParsedValue) → Good ts 0 (Receiver at back l ∷ s) (AnIdent name ∷ vs)
      → Fits d l x × (target_parens r ≤ MOST_PARENS)
  target_kept (own r) d l f g s vs h = (
    record {
      nested = omega (arith, f);
      held = omega (arith, g);
      small = record { nodes = omega arith; indexes = omega arith };
      inner = tt;
    },
    omega arith,
  )
  target_kept (on whole r) d l f g s vs h = (
    record {
      nested = omega (arith, f);
      held = omega (arith, g);
      small = record { nodes = omega arith; indexes = omega arith };
      inner = tt;
    },
    omega arith,
  )
  target_kept {at} {back} {name} (on (item {a = y} {b = z} {ts} {e} i) r) d l f g s vs h =
      let k = open_receiver at back l y ts s (AnIdent name ∷ vs) h in
      let room : Room 0 0 1 = record { parens = omega arith; nodes = omega arith; indexes = omega arith } in
      let m = expr_kept i 0 1 0 room (refl, λ j m. refl) (ASign sign.RightBracket ∷ Build MakeElement
      ∷ ASign sign.DoubleColon ∷ send_parts at back s) (AnIdent name ∷ vs) k.1 in
      let p : 0 + parens_of i ≤ MOST_PARENS = m.parens in (
        record {
          nested = omega (arith, f);
          held = omega (arith, k.0);
          small = record { nodes = omega (arith, m.nodes); indexes = omega (arith, m.indexes) };
          inner = tt;
        },
        omega (arith, p),
      )

  assigned_kept : {at : ℕ} {p : Lvalue} {ts rest : List Token} {x : Statement} (r : IsAssigned at p ts rest x)
      (d l n : ℕ) → n ≡ index_nodes p → n ≤ MOST_NODES → lvalue_index_depth p ≤ MOST_INDEX_DEPTH → d < MOST_NESTING
      → l ≤ MOST_LOCALS → Below 10 rest → (s : List Part) (vs : List ParsedValue)
      → Good ts n (Assign at ∷ s) (APlace p ∷ vs)
      → Fits d l x × (assigned_parens r ≤ MOST_PARENS)
  assigned_kept {at} {p} (update {a} {kind} {op} {ts} {rest} {e} o v) d l n same most deep f g b s vs h =
      let room : Room 0 n 0 = record { parens = omega arith; nodes = most; indexes = omega arith } in
      let m = expr_kept v 0 0 n room (b.0, λ j k. b.1 j (omega arith)) (Build (MakeUpdate at op) ∷ s) (APlace p ∷ vs)
      (sym (read_update true end at a kind op ts n s (APlace p ∷ vs) o) ∙ h) in
      let deeper : 0 + index_depth e ≤ MOST_INDEX_DEPTH = m.indexes in (
        record {
          nested = omega (arith, f);
          held = omega (arith, g);
          small = record { nodes = omega (arith, m.nodes, same); indexes = omega (arith, deep, deeper) };
          inner = tt;
        },
        omega (arith, m.parens),
      )
  assigned_kept {at} {p} (swap {q = w} {a} {ts} {rest} r) d l n same most deep f g b s vs h =
      let m = (place_kept r n most b.0 (Build (MakeSwap at) ∷ s) (APlace p ∷ vs)
      (sym (read_swap true end at a ts n s (APlace p ∷ vs)) ∙ h)).0 in
      let deeper : lvalue_index_depth w ≤ MOST_INDEX_DEPTH = m.indexes in (
        record {
          nested = omega (arith, f);
          held = omega (arith, g);
          small = record { nodes = omega (arith, m.nodes, same); indexes = omega (arith, deep, deeper) };
          inner = tt;
        },
        omega (arith, m.parens),
      )

  -- ---- the first tokens of statements

  open_assign : (a : Span) (name : List ℕ) (ts : List Token) (n d l : ℕ) (s : List Part) (vs : List ParsedValue)
      → Good (tok a (Name name) ∷ ts) n (Single d l ∷ s) vs
      → (d < MOST_NESTING) × Good ts 0 (Index 0 0 ∷ Assign a.at ∷ Count 0 ∷ s) (AnIdent (ident a name) ∷ vs)
  unfolding scan walk
  open_assign a name ts n d l s vs h = nesting_in a.at d (here (is_sign sign.LeftBracket) ts)
      (scan true end ts 0 (Index 0 0 ∷ Assign a.at ∷ Count 0 ∷ s) (AnIdent (ident a name) ∷ vs)) h

  open_if : (a : Span) (ts : List Token) (n d l : ℕ) (s : List Part) (vs : List ParsedValue)
      → Good (tok a (Word word.If) ∷ ts) n (Single d l ∷ s) vs
      → (d < MOST_NESTING) × Good ts 0 (Level 9 0 0 ∷ Branches word.Then word.Else word.Fi d l ∷ Build (MakeIf a.at)
      ∷ Count 0 ∷ s) vs
  unfolding scan walk
  open_if a ts n d l s vs h = nesting_in a.at d (here (is_sign sign.LeftBracket) ts)
      (scan true end ts 0 (Level 9 0 0 ∷ Branches word.Then word.Else word.Fi d l ∷ Build (MakeIf a.at) ∷ Count 0 ∷ s)
      vs) h

  open_from : (a : Span) (ts : List Token) (n d l : ℕ) (s : List Part) (vs : List ParsedValue)
      → Good (tok a (Word word.From) ∷ ts) n (Single d l ∷ s) vs
      → (d < MOST_NESTING) × Good ts 0 (Level 9 0 0 ∷ Branches word.Do word.Loop word.Until d l ∷ Build (MakeFrom a.at)
      ∷ Count 0 ∷ s) vs
  unfolding scan walk
  open_from a ts n d l s vs h = nesting_in a.at d (here (is_sign sign.LeftBracket) ts)
      (scan true end ts 0 (Level 9 0 0 ∷ Branches word.Do word.Loop word.Until d l ∷ Build (MakeFrom a.at) ∷ Count 0
      ∷ s) vs) h

  open_construct : (a : Span) (ts : List Token) (n d l : ℕ) (s : List Part) (vs : List ParsedValue)
      → Good (tok a (Word word.Construct) ∷ ts) n (Single d l ∷ s) vs
      → (d < MOST_NESTING) × (l < MOST_LOCALS) × Good ts 0
      (AName ∷ AName ∷ Block (suc d) (suc l) ∷ AWord word.Destruct ∷ AName ∷ Build (MakeConstruct a.at) ∷ s) vs
  unfolding scan walk
  open_construct a ts n d l s vs h = scope_in a.at d l (here (is_sign sign.LeftBracket) ts)
      (scan true end ts 0 (AName ∷ AName ∷ Block (suc d) (suc l) ∷ AWord word.Destruct ∷ AName
      ∷ Build (MakeConstruct a.at) ∷ s) vs) h

  open_local : (a : Span) (ts : List Token) (n d l : ℕ) (s : List Part) (vs : List ParsedValue)
      → Good (tok a (Word word.Local) ∷ ts) n (Single d l ∷ s) vs
      → (d < MOST_NESTING) × (l < MOST_LOCALS) × Good ts 0
      (Kind ∷ var_parts (ASign sign.Equal ∷ Level 9 0 0 ∷ Scope d l ∷ Build (MakeLocal a.at) ∷ Count 0 ∷ s)) vs
  unfolding scan walk
  open_local a ts n d l s vs h = scope_in a.at d l (here (is_sign sign.LeftBracket) ts)
      (scan true end ts 0 (Kind ∷ var_parts (ASign sign.Equal ∷ Level 9 0 0 ∷ Scope d l ∷ Build (MakeLocal a.at)
      ∷ Count 0 ∷ s)) vs) h

  open_new : (a : Span) (ts : List Token) (n d l : ℕ) (s : List Part) (vs : List ParsedValue)
      → Good (tok a (Word word.New) ∷ ts) n (Single d l ∷ s) vs
      → (d < MOST_NESTING) × Good ts 0 (Made ∷ Spot ∷ Build (MakeNew a.at) ∷ Count 0 ∷ s) vs
  unfolding scan walk
  open_new a ts n d l s vs h = nesting_in a.at d (here (is_sign sign.LeftBracket) ts)
      (scan true end ts 0 (Made ∷ Spot ∷ Build (MakeNew a.at) ∷ Count 0 ∷ s) vs) h

  open_delete : (a : Span) (ts : List Token) (n d l : ℕ) (s : List Part) (vs : List ParsedValue)
      → Good (tok a (Word word.Delete) ∷ ts) n (Single d l ∷ s) vs
      → (d < MOST_NESTING) × Good ts 0 (Made ∷ Spot ∷ Build (MakeDelete a.at) ∷ Count 0 ∷ s) vs
  unfolding scan walk
  open_delete a ts n d l s vs h = nesting_in a.at d (here (is_sign sign.LeftBracket) ts)
      (scan true end ts 0 (Made ∷ Spot ∷ Build (MakeDelete a.at) ∷ Count 0 ∷ s) vs) h

  open_copy : (a : Span) (ts : List Token) (n d l : ℕ) (s : List Part) (vs : List ParsedValue)
      → Good (tok a (Word word.Copy) ∷ ts) n (Single d l ∷ s) vs
      → (d < MOST_NESTING) × Good ts 0 (Kind ∷ Spot ∷ Spot ∷ Build (MakeCopy a.at) ∷ Count 0 ∷ s) vs
  unfolding scan walk
  open_copy a ts n d l s vs h = nesting_in a.at d (here (is_sign sign.LeftBracket) ts)
      (scan true end ts 0 (Kind ∷ Spot ∷ Spot ∷ Build (MakeCopy a.at) ∷ Count 0 ∷ s) vs) h

  open_uncopy : (a : Span) (ts : List Token) (n d l : ℕ) (s : List Part) (vs : List ParsedValue)
      → Good (tok a (Word word.Uncopy) ∷ ts) n (Single d l ∷ s) vs
      → (d < MOST_NESTING) × Good ts 0 (Kind ∷ Spot ∷ Spot ∷ Build (MakeUncopy a.at) ∷ Count 0 ∷ s) vs
  unfolding scan walk
  open_uncopy a ts n d l s vs h = nesting_in a.at d (here (is_sign sign.LeftBracket) ts)
      (scan true end ts 0 (Kind ∷ Spot ∷ Spot ∷ Build (MakeUncopy a.at) ∷ Count 0 ∷ s) vs) h

  open_call : (a : Span) (ts : List Token) (n d l : ℕ) (s : List Part) (vs : List ParsedValue)
      → Good (tok a (Word word.Call) ∷ ts) n (Single d l ∷ s) vs
      → (d < MOST_NESTING) × Good ts 0 (AName ∷ Receiver a.at false l ∷ Count 0 ∷ s) vs
  unfolding scan walk
  open_call a ts n d l s vs h = nesting_in a.at d (here (is_sign sign.LeftBracket) ts)
      (scan true end ts 0 (AName ∷ Receiver a.at false l ∷ Count 0 ∷ s) vs) h

  open_uncall : (a : Span) (ts : List Token) (n d l : ℕ) (s : List Part) (vs : List ParsedValue)
      → Good (tok a (Word word.Uncall) ∷ ts) n (Single d l ∷ s) vs
      → (d < MOST_NESTING) × Good ts 0 (AName ∷ Receiver a.at true l ∷ Count 0 ∷ s) vs
  unfolding scan walk
  open_uncall a ts n d l s vs h = nesting_in a.at d (here (is_sign sign.LeftBracket) ts)
      (scan true end ts 0 (AName ∷ Receiver a.at true l ∷ Count 0 ∷ s) vs) h

  open_skip : (a : Span) (ts : List Token) (n d l : ℕ) (s : List Part) (vs : List ParsedValue)
      → Good (tok a (Word word.Skip) ∷ ts) n (Single d l ∷ s) vs
      → (d < MOST_NESTING) × Good ts 0 s (AStatement (Skip a.at) ∷ vs)
  unfolding scan walk
  open_skip a ts n d l s vs h = nesting_in a.at d (here (is_sign sign.LeftBracket) ts)
      (scan true end ts 0 s (AStatement (Skip a.at) ∷ vs)) h

  -- ---- statements

  mutual
    single_kept : {ts rest : List Token} {x : Statement} (r : IsStatement ts rest x) (d l n : ℕ) → l ≤ MOST_LOCALS
        → Below 10 rest → (s : List Part) (vs : List ParsedValue) → Good ts n (Single d l ∷ s) vs
        → Fits d l x × (statement_parens r ≤ MOST_PARENS)
    single_kept (assign {a} {name} {ts} {p} i r) d l n g b s vs h =
        let k = open_assign a name ts n d l s vs h in
        let m = indexed_kept i 0 (omega arith) (assigned_begins true end r) (Assign a.at ∷ Count 0 ∷ s) vs k.1 in
        let x = assigned_kept r d l (0 + index_nodes p) (omega arith) m.0.nodes m.0.indexes k.0 g b (Count 0 ∷ s) vs m.1
        in
        (x.0, omega (arith, m.0.parens, x.1))
    single_kept (conditional {a} {ts} {mid} {rest} {test} {behind} {taken} {other} e r) d l n g b s vs h =
        let k = open_if a ts n d l s vs h in
        let room : Room 0 0 0 = record { parens = omega arith; nodes = omega arith; indexes = omega arith } in
        let m = value_kept e 0 0 0 room (branches_begin true end r)
        (Branches word.Then word.Else word.Fi d l ∷ Build (MakeIf a.at) ∷ Count 0 ∷ s) vs k.1 in
        let x = branches_kept r d l (0 + nodes test) refl refl m.0.nodes g b (Build (MakeIf a.at) ∷ Count 0 ∷ s)
        (AnExpr test ∷ vs) m.1 in
        let y = x.0 in
        let z = x.1 in
        let v = x.2 in
        let held : l + max (locals taken) (locals other) ≤ MOST_LOCALS = omega (arith, y.held, z.held) in (
          record {
            nested = omega (arith, y.nested, z.nested);
            held = held;
            small = record { nodes = omega (arith, v.nodes); indexes = omega (arith, m.0.indexes, v.indexes) };
            inner = (y.small, z.small);
          },
          omega (arith, m.0.parens, v.parens),
        )
    single_kept (repeat {a} {ts} {mid} {rest} {entry} {exit} {first} {again} e r) d l n g b s vs h =
        let k = open_from a ts n d l s vs h in
        let room : Room 0 0 0 = record { parens = omega arith; nodes = omega arith; indexes = omega arith } in
        let m = value_kept e 0 0 0 room (branches_begin true end r)
        (Branches word.Do word.Loop word.Until d l ∷ Build (MakeFrom a.at) ∷ Count 0 ∷ s) vs k.1 in
        let x = branches_kept r d l (0 + nodes entry) refl refl m.0.nodes g b (Build (MakeFrom a.at) ∷ Count 0 ∷ s)
        (AnExpr entry ∷ vs) m.1 in
        let y = x.0 in
        let z = x.1 in
        let v = x.2 in
        let held : l + max (locals first) (locals again) ≤ MOST_LOCALS = omega (arith, y.held, z.held) in (
          record {
            nested = omega (arith, y.nested, z.nested);
            held = held;
            small = record { nodes = omega (arith, v.nodes); indexes = omega (arith, m.0.indexes, v.indexes) };
            inner = (y.small, z.small);
          },
          omega (arith, m.0.parens, v.parens),
        )
    single_kept (construct {a} {b = b1} {c} {d = d1} {e = e1} {class = owner} {name} {last} {ts} {rest} {body} r) d l n
        g b s vs h =
        let k = open_construct a (tok b1 (Name owner) ∷ tok c (Name name) ∷ ts) n d l s vs h in
        let tail = AWord word.Destruct ∷ AName ∷ Build (MakeConstruct a.at) ∷ s in
        let e = read_name true end b1 owner (tok c (Name name) ∷ ts) 0 (AName ∷ Block (suc d) (suc l) ∷ tail) vs
        ∙ read_name true end c name ts 0 (Block (suc d) (suc l) ∷ tail) (AnIdent (ident b1 owner) ∷ vs) in
        let x = block_kept r (suc d) (suc l) 0 (omega (arith, k.1)) (refl, λ j m. refl) refl tail
        (AnIdent (ident c name) ∷ AnIdent (ident b1 owner) ∷ vs) (sym e ∙ k.2) in (
          record {
            nested = omega (arith, x.0.nested);
            held = omega (arith, x.0.held);
            small = record { nodes = omega arith; indexes = omega arith };
            inner = x.0.small;
          },
          x.1,
        )
    single_kept (declare {a} {b = b1} {ts} {us} {mid} {rest} {v} {w} {value} {end_value} {body} x e r) d l n g b s vs h
        =
        let k = open_local a ts n d l s vs h in
        let behind = Scope d l ∷ Build (MakeLocal a.at) ∷ Count 0 ∷ s in
        let moved = var_reads true end x 0 (ASign sign.Equal ∷ Level 9 0 0 ∷ behind) vs
        ∙ read_sign true end b1 sign.Equal us 0 (Level 9 0 0 ∷ behind) (AVar v ∷ vs) in
        let room : Room 0 0 0 = record { parens = omega arith; nodes = omega arith; indexes = omega arith } in
        let m = value_kept e 0 0 0 room (scope_begins true end r) behind (AVar v ∷ vs) (sym moved ∙ k.2) in
        let y = scope_kept r d l (0 + nodes value) m.0.nodes k.1 b (Build (MakeLocal a.at) ∷ Count 0 ∷ s)
        (AnExpr value ∷ AVar v ∷ vs) m.1 in
        let z = y.0 in
        let u = y.1 in (
          record {
            nested = omega (arith, z.nested);
            held = omega (arith, z.held);
            small = record { nodes = omega (arith, u.nodes); indexes = omega (arith, m.0.indexes, u.indexes) };
            inner = z.small;
          },
          omega (arith, m.0.parens, u.parens),
        )
    single_kept (make {a} {ts} {mid} {rest} {c} {p} m r) d l n g b s vs h =
        let k = open_new a ts n d l s vs h in
        let x = made_kept m (place_begins true end r) (Spot ∷ Build (MakeNew a.at) ∷ Count 0 ∷ s) vs k.1 in
        let y = (place_kept r (0 + creation_nodes c) (omega (arith, x.0.nodes)) b.0 (Build (MakeNew a.at) ∷ Count 0 ∷ s)
        (ACreation c ∷ vs) x.1).0 in (
          record {
            nested = omega (arith, k.0);
            held = omega (arith, g);
            small = record { nodes = omega (arith, y.nodes); indexes = omega (arith, x.0.indexes, y.indexes) };
            inner = tt;
          },
          omega (arith, x.0.parens, y.parens),
        )
    single_kept (delete {a} {ts} {mid} {rest} {c} {p} m r) d l n g b s vs h =
        let k = open_delete a ts n d l s vs h in
        let x = made_kept m (place_begins true end r) (Spot ∷ Build (MakeDelete a.at) ∷ Count 0 ∷ s) vs k.1 in
        let y = (place_kept r (0 + creation_nodes c) (omega (arith, x.0.nodes)) b.0
        (Build (MakeDelete a.at) ∷ Count 0 ∷ s) (ACreation c ∷ vs) x.1).0 in (
          record {
            nested = omega (arith, k.0);
            held = omega (arith, g);
            small = record { nodes = omega (arith, y.nodes); indexes = omega (arith, x.0.indexes, y.indexes) };
            inner = tt;
          },
          omega (arith, x.0.parens, y.parens),
        )
    single_kept (copy {a} {ts} {us} {vs = ws} {rest} {k = kind} {p} {q = w} x y z) d l n g b s vs h =
        let k = open_copy a ts n d l s vs h in
        let m = place_kept y 0 (omega arith) (place_begins true end z) (Spot ∷ Build (MakeCopy a.at) ∷ Count 0 ∷ s)
        (AType kind ∷ vs) (sym (type_reads true end x 0 (place_begins true end y)
        (Spot ∷ Spot ∷ Build (MakeCopy a.at) ∷ Count 0 ∷ s) vs) ∙ k.1) in
        let v = (place_kept z (0 + index_nodes p) m.0.nodes b.0 (Build (MakeCopy a.at) ∷ Count 0 ∷ s)
        (APlace p ∷ AType kind ∷ vs) m.1).0 in (
          record {
            nested = omega (arith, k.0);
            held = omega (arith, g);
            small = record { nodes = omega (arith, v.nodes); indexes = omega (arith, m.0.indexes, v.indexes) };
            inner = tt;
          },
          omega (arith, m.0.parens, v.parens),
        )
    single_kept (uncopy {a} {ts} {us} {vs = ws} {rest} {k = kind} {p} {q = w} x y z) d l n g b s vs h =
        let k = open_uncopy a ts n d l s vs h in
        let m = place_kept y 0 (omega arith) (place_begins true end z) (Spot ∷ Build (MakeUncopy a.at) ∷ Count 0 ∷ s)
        (AType kind ∷ vs) (sym (type_reads true end x 0 (place_begins true end y)
        (Spot ∷ Spot ∷ Build (MakeUncopy a.at) ∷ Count 0 ∷ s) vs) ∙ k.1) in
        let v = (place_kept z (0 + index_nodes p) m.0.nodes b.0 (Build (MakeUncopy a.at) ∷ Count 0 ∷ s)
        (APlace p ∷ AType kind ∷ vs) m.1).0 in (
          record {
            nested = omega (arith, k.0);
            held = omega (arith, g);
            small = record { nodes = omega (arith, v.nodes); indexes = omega (arith, m.0.indexes, v.indexes) };
            inner = tt;
          },
          omega (arith, m.0.parens, v.parens),
        )
    single_kept (call {a} {b = b1} {name} {ts} r) d l n g b s vs h =
        let k = open_call a (tok b1 (Name name) ∷ ts) n d l s vs h in
        target_kept r d l k.0 g (Count 0 ∷ s) vs (sym (read_name true end b1 name ts 0
        (Receiver a.at false l ∷ Count 0 ∷ s) vs) ∙ k.1)
    single_kept (uncall {a} {b = b1} {name} {ts} r) d l n g b s vs h =
        let k = open_uncall a (tok b1 (Name name) ∷ ts) n d l s vs h in
        target_kept r d l k.0 g (Count 0 ∷ s) vs (sym (read_name true end b1 name ts 0
        (Receiver a.at true l ∷ Count 0 ∷ s) vs) ∙ k.1)
    single_kept (skip {a} {rest}) d l n g b s vs h =
        let k = open_skip a rest n d l s vs h in (
          record {
            nested = omega (arith, k.0);
            held = omega (arith, g);
            small = record { nodes = omega arith; indexes = omega arith };
            inner = tt;
          },
          omega arith,
        )

    branches_kept : {first second third : Keyword} {ts rest : List Token} {x y : Statements} {e : Expression}
        (r : IsBranches first second third ts rest x y e) (d l n : ℕ) → starts (Word second) ≡ false
        → starts (Word third) ≡ false → n ≤ MOST_NODES → l ≤ MOST_LOCALS → Below 10 rest
        → (s : List Part) (vs : List ParsedValue) → Good ts n (Branches first second third d l ∷ s) vs
        → BlockFits (suc d) l x × BlockFits (suc d) l y × Room (branch_parens r) (n + nodes e) (index_depth e)
    branches_kept {first} {second} {third} (branches {a} {b = b1} {c} {ts} {us} {vs = ws} {rest} {taken} {other} {e} r1
        r2 r3) d l n o2 o3 f g b s vs h =
        let two = AWord second ∷ Block (suc d) l ∷ AWord third ∷ Count n ∷ Level 9 0 0 ∷ s in
        let three = AWord third ∷ Count n ∷ Level 9 0 0 ∷ s in
        let e1 = run_branches true end (tok a (Word first) ∷ ts) n first second third d l s vs
        ∙ read_word true end a first ts n (branch_parts second third d l n s) vs in
        let h1 = sym e1 ∙ h in
        let k1 = block_kept r1 (suc d) l n g (refl, λ j m. refl) o2 two vs h1 in
        let e2 = block_reads true end r1 (suc d) l n (λ t. k1.0) (λ t. k1.1) (refl, λ j m. refl) o2 two vs
        ∙ read_word true end b1 second us 0 (Block (suc d) l ∷ three) (ABlock taken ∷ vs) in
        let h2 = sym e2 ∙ h1 in
        let k2 = block_kept r2 (suc d) l 0 g (refl, λ j m. refl) o3 three (ABlock taken ∷ vs) h2 in
        let e3 = block_reads true end r2 (suc d) l 0 (λ t. k2.0) (λ t. k2.1) (refl, λ j m. refl) o3 three
        (ABlock taken ∷ vs) ∙ read_word true end c third ws 0 (Count n ∷ Level 9 0 0 ∷ s)
        (ABlock other ∷ ABlock taken ∷ vs) ∙ run_count true end ws 0 n (Level 9 0 0 ∷ s)
        (ABlock other ∷ ABlock taken ∷ vs) in
        let room : Room 0 n 0 = record { parens = omega arith; nodes = f; indexes = omega arith } in
        let m = (value_kept r3 0 0 n room b s (ABlock other ∷ ABlock taken ∷ vs) (sym e3 ∙ h2)).0 in (
          k1.0,
          k2.0,
          record {
            parens = omega (arith, k1.1, k2.1, m.parens);
            nodes = m.nodes;
            indexes = omega (arith, m.indexes);
          },
        )

    scope_kept : {ts rest : List Token} {x : Statements} {w : Var} {e : Expression} (r : IsScope ts rest x w e)
        (d l n : ℕ) → n ≤ MOST_NODES → l < MOST_LOCALS → Below 10 rest → (s : List Part) (vs : List ParsedValue)
        → Good ts n (Scope d l ∷ s) vs → BlockFits (suc d) (suc l) x
        × Room (scope_parens r) (n + nodes e) (index_depth e)
    scope_kept (scope {a} {b = b1} {ts} {us} {vs = ws} {rest} {body} {w} {e} r v x) d l n f g b s vs h =
        let h1 = sym (run_scope true end ts n d l s vs) ∙ h in
        let k = block_kept r (suc d) (suc l) n (omega (arith, g)) (refl, λ j m. refl) refl (scope_end n s) vs h1 in
        let e1 = block_reads true end r (suc d) (suc l) n (λ t. k.0) (λ t. k.1) (refl, λ j m. refl) refl (scope_end n s)
        vs ∙ read_word true end a word.Delocal us 0 (Kind
        ∷ var_parts (ASign sign.Equal ∷ Count n ∷ Level 9 0 0 ∷ s)) (ABlock body ∷ vs)
        ∙ var_reads true end v 0 (ASign sign.Equal ∷ Count n ∷ Level 9 0 0 ∷ s) (ABlock body ∷ vs)
        ∙ read_sign true end b1 sign.Equal ws 0 (Count n ∷ Level 9 0 0 ∷ s) (AVar w ∷ ABlock body ∷ vs)
        ∙ run_count true end ws 0 n (Level 9 0 0 ∷ s) (AVar w ∷ ABlock body ∷ vs) in
        let room : Room 0 n 0 = record { parens = omega arith; nodes = f; indexes = omega arith } in
        let m = (value_kept x 0 0 n room b s (AVar w ∷ ABlock body ∷ vs) (sym e1 ∙ h1)).0 in
        (k.0, record { parens = omega (arith, k.1, m.parens); nodes = m.nodes; indexes = omega (arith, m.indexes) })

    block_kept : {ts rest : List Token} {x : Statements} (r : IsBlock ts rest x) (d l n : ℕ) → l ≤ MOST_LOCALS
        → Below 10 rest → here starts rest ≡ false → (s : List Part) (vs : List ParsedValue)
        → Good ts n (Block d l ∷ s) vs
        → BlockFits d l x × (block_parens r ≤ MOST_PARENS)
    block_kept (block {ts} {mid} {rest} {x} {xs} r rs) d l n g b o s vs h =
        let h1 = sym (run_block true end ts n d l s vs) ∙ h in
        let k = single_kept r d l n g (below_statements true end rs b)
        (Build AddStatement ∷ Stmts d l ∷ Build MakeBlock ∷ s) (Many [] ∷ vs) h1 in
        let e = single_reads true end r d l n (λ t. k.0) (λ t. k.1) (below_statements true end rs b)
        (Build AddStatement ∷ Stmts d l ∷ Build MakeBlock ∷ s) (Many [] ∷ vs)
        ∙ run_build true end mid 0 AddStatement (Stmts d l ∷ Build MakeBlock ∷ s) (AStatement x ∷ Many [] ∷ vs) in
        let nest : d + statement_depth x ≤ MOST_NESTING = k.0.nested in
        let m = statements_kept rs d l (omega (arith, nest)) g b o (Build MakeBlock ∷ s) (x ∷ []) vs (sym e ∙ h1) in
        let held : l + statement_locals x ≤ MOST_LOCALS = k.0.held in (
          record {
            nested = omega (arith, nest, m.0.nested);
            held = omega (arith, held, m.0.held);
            small = (k.0.small, k.0.inner, m.0.small);
          },
          omega (arith, k.1, m.1),
        )

    statements_kept : {ts rest : List Token} {xs : List Statement} (rs : IsStatements ts rest xs) (d l : ℕ)
        → d ≤ MOST_NESTING → l ≤ MOST_LOCALS → Below 10 rest → here starts rest ≡ false
        → (s : List Part) (ys : List Statement) (vs : List ParsedValue) → Good ts 0 (Stmts d l ∷ s) (Many ys ∷ vs)
        → BlockFits d l (statements_of xs) × (list_parens rs ≤ MOST_PARENS)
    statements_kept (finish {rest}) d l f g b o s ys vs h =
        (record { nested = omega (arith, f); held = omega (arith, g); small = tt }, omega arith)
    statements_kept (then {ts} {mid} {rest} {x} {xs} r rs) d l f g b o s ys vs h =
        let h1 = sym (run_stmts true end ts 0 d l s (Many ys ∷ vs) (statement_begins true end r).0) ∙ h in
        let k = single_kept r d l 0 g (below_statements true end rs b) (Build AddStatement ∷ Stmts d l ∷ s)
        (Many ys ∷ vs) h1 in
        let e = single_reads true end r d l 0 (λ t. k.0) (λ t. k.1) (below_statements true end rs b)
        (Build AddStatement ∷ Stmts d l ∷ s) (Many ys ∷ vs)
        ∙ run_build true end mid 0 AddStatement (Stmts d l ∷ s) (AStatement x ∷ Many ys ∷ vs) in
        let m = statements_kept rs d l f g b o s (ys ++ x ∷ []) vs (sym e ∙ h1) in
        let nest : d + statement_depth x ≤ MOST_NESTING = k.0.nested in
        let held : l + statement_locals x ≤ MOST_LOCALS = k.0.held in (
          record {
            nested = omega (arith, nest, m.0.nested);
            held = omega (arith, held, m.0.held);
            small = (k.0.small, k.0.inner, m.0.small);
          },
          omega (arith, k.1, m.1),
        )

  -- ---- classes

  open_param_int : (a : Span) (ts : List Token) (n c : ℕ) (s : List Part) (vs : List ParsedValue)
      → Good (tok a (Word word.Int) ∷ ts) n (Param c ∷ s) vs → c < MOST_PARAMETERS
  unfolding scan walk
  open_param_int a ts n c s vs h = param_in a.at c (here (is_sign sign.LeftBracket) ts)
      (scan true end ts n (Brackets ∷ field_parts s) (AType kind.Int ∷ vs)) h

  open_param_class : (a : Span) (name : List ℕ) (ts : List Token) (n c : ℕ) (s : List Part) (vs : List ParsedValue)
      → Good (tok a (Name name) ∷ ts) n (Param c ∷ s) vs → c < MOST_PARAMETERS
  unfolding scan walk
  open_param_class a name ts n c s vs h = param_in a.at c (here (is_sign sign.LeftBracket) ts)
      (scan true end ts n (Brackets ∷ field_parts s) (AType (kind.Class (ident a name)) ∷ vs)) h

  param_kept : {ts rest : List Token} {v : Var} (x : IsVar ts rest v) (n c : ℕ) (s : List Part) (vs : List ParsedValue)
      → Good ts n (Param c ∷ s) vs → c < MOST_PARAMETERS
  param_kept (var (ints {a} {ts} x)) n c s vs h = open_param_int a ts n c s vs h
  param_kept (var (objects {a} {name} {ts} x)) n c s vs h = open_param_class a name ts n c s vs h

  open_comma : (a : Span) (ts : List Token) (n c : ℕ) (s : List Part) (vs : List ParsedValue)
      → Good (tok a (Sign sign.Comma) ∷ ts) n (MoreParams c ∷ s) vs → Good ts n (Param c ∷ MoreParams (suc c) ∷ s) vs
  unfolding scan walk
  open_comma a ts n c s vs h = h

  more_params_kept : {ts rest : List Token} {xs : List Var} (x : IsMoreParams ts rest xs) (n c : ℕ)
      → c ≤ MOST_PARAMETERS → (s : List Part) (ys : List Var) (vs : List ParsedValue)
      → Good ts n (MoreParams c ∷ s) (Vars ys ∷ vs) → c + length xs ≤ MOST_PARAMETERS
  more_params_kept (last_param {a} {rest}) n c f s ys vs h = omega (arith, f)
  more_params_kept (next_param {a} {ts} {mid} {rest} {v} {xs} x m) n c f s ys vs h =
      let k = open_comma a ts n c s (Vars ys ∷ vs) h in
      let few = param_kept x n c (MoreParams (suc c) ∷ s) (Vars ys ∷ vs) k in
      let r = more_params_kept m n (suc c) (omega (arith, few)) s (ys ++ v ∷ []) vs
      (sym (param_reads true end x n c (λ t. few) (MoreParams (suc c) ∷ s) ys vs) ∙ k) in
      omega (arith, r)

  params_kept : {ts rest : List Token} {xs : List Var} (x : IsParams ts rest xs) (n : ℕ) (s : List Part)
      (vs : List ParsedValue) → Good ts n (Params ∷ s) vs → length xs ≤ MOST_PARAMETERS
  params_kept (no_param {a} {rest}) n s vs h = omega arith
  params_kept (some_params {ts} {mid} {v} {xs} x m) n s vs h =
      let h1 = sym (first_param true end x n s vs) ∙ h in
      let r = more_params_kept m n 1 (omega arith) s (v ∷ []) vs
      (sym (param_reads true end x n 0 (λ t. omega arith) (MoreParams 1 ∷ s) [] vs) ∙ h1) in
      omega (arith, r)

  method_kept : {ts rest : List Token} {x : Procedure} (r : IsMethod ts rest x) → Below 10 rest
      → here starts rest ≡ false → (s : List Part) (xs : List Procedure) (vs : List ParsedValue)
      → Good ts 0 (AWord word.Method ∷ method_parts s) (Methods xs ∷ vs)
      → IsSmallMethod x × (method_parens r ≤ MOST_PARENS)
  method_kept (method {a} {b = b1} {c} {name} {ts} {us} {rest} {ps} {body} p r) b o s xs vs h =
      let e1 = read_word true end a word.Method (tok b1 (Name name) ∷ tok c (Sign sign.LeftParen) ∷ ts) 0
      (method_parts s) (Methods xs ∷ vs)
      ∙ read_name true end b1 name (tok c (Sign sign.LeftParen) ∷ ts) 0
      (ASign sign.LeftParen ∷ Params ∷ Block 0 0 ∷ Build MakeMethod ∷ s) (Methods xs ∷ vs)
      ∙ read_sign true end c sign.LeftParen ts 0 (Params ∷ Block 0 0 ∷ Build MakeMethod ∷ s)
      (AnIdent (ident b1 name) ∷ Methods xs ∷ vs) in
      let h1 = sym e1 ∙ h in
      let few = params_kept p 0 (Block 0 0 ∷ Build MakeMethod ∷ s) (AnIdent (ident b1 name) ∷ Methods xs ∷ vs) h1 in
      let k = block_kept r 0 0 0 (omega arith) b o (Build MakeMethod ∷ s)
      (Vars ps ∷ AnIdent (ident b1 name) ∷ Methods xs ∷ vs)
      (sym (params_read true end p 0 (λ t. few) (Block 0 0 ∷ Build MakeMethod ∷ s)
      (AnIdent (ident b1 name) ∷ Methods xs ∷ vs)) ∙ h1) in (
        record {
          parameters = few;
          locals_nested = omega (arith, k.0.held);
          nesting = omega (arith, k.0.nested);
          statements = k.0.small;
        },
        k.1,
      )

  methods_kept : {ts rest : List Token} {xs : List Procedure} (r : IsMethods ts rest xs) → Closed true end rest
      → (s : List Part) (ys : List Procedure) (vs : List ParsedValue) → Good ts 0 (Procedures ∷ s) (Methods ys ∷ vs)
      → All IsSmallMethod xs × (methods_parens r ≤ MOST_PARENS)
  methods_kept (no_method {rest}) c s ys vs h = (All-nil IsSmallMethod, omega arith)
  methods_kept (methods {ts} {mid} {rest} {x} {xs} r rs) c s ys vs h =
      let k = closed_methods true end rs c in
      let h1 = sym (run_procedures true end ts 0 s (Methods ys ∷ vs) (method_begins r)) ∙ h in
      let m = method_kept r k.3 k.2 (Procedures ∷ s) ys vs h1 in
      let f = methods_kept rs c s (ys ++ x ∷ []) vs (sym (method_reads true end r (λ t. m.0) (λ t. m.1) k.3 k.2
      (Procedures ∷ s) ys vs) ∙ h1) in
      (All-cons IsSmallMethod x xs m.0 f.0, omega (arith, m.1, f.1))

  open_class : (a : Span) (ts : List Token) (c : ℕ) (s : List Part) (vs : List ParsedValue)
      → Good (tok a (Word word.Class) ∷ ts) 0 (Program c ∷ s) vs
      → (c < MOST_CLASSES) × Good ts 0 (class_parts (Program (suc c) ∷ s)) vs
  unfolding scan walk
  open_class a ts c s vs h = class_in a.at c (here (is_sign sign.LeftBracket) ts)
      (scan true end ts 0 (class_parts (Program (suc c) ∷ s)) vs) h

  class_kept : {ts rest : List Token} {x : ClassText} (r : IsClass ts rest x) (c : ℕ) → Closed true end rest
      → here (is_word word.Method) rest ≡ false → (s : List Part) (xs : List ClassText) (vs : List ParsedValue)
      → Good ts 0 (Program c ∷ s) (Classes xs ∷ vs) → (c < MOST_CLASSES) × All IsSmallMethod x.methods
      × (class_parens r ≤ MOST_PARENS)
  class_kept (class {a} {b = b1} {name} {ts} {us} {vs = ws} {rest} {p} {fs} {ms} r1 r2 r3) c k b s xs vs h =
      let m = closed_methods true end r3 k in
      let tail = Program (suc c) ∷ s in
      let below = AnIdent (ident b1 name) ∷ Classes xs ∷ vs in
      let o = open_class a (tok b1 (Name name) ∷ ts) c s (Classes xs ∷ vs) h in
      let e = read_name true end b1 name ts 0 (Parent ∷ Build NoVars ∷ Fields ∷ Build NoMethods ∷ Procedures
      ∷ Build MakeClass ∷ tail) (Classes xs ∷ vs)
      ∙ parent_reads true end r1 (no_parent true end r2 m.1)
      (Build NoVars ∷ Fields ∷ Build NoMethods ∷ Procedures ∷ Build MakeClass ∷ tail) below
      ∙ run_build true end us 0 NoVars (Fields ∷ Build NoMethods ∷ Procedures ∷ Build MakeClass ∷ tail)
      (AParent p ∷ below)
      ∙ fields_read true end r2 m.0 (Build NoMethods ∷ Procedures ∷ Build MakeClass ∷ tail) [] (AParent p ∷ below)
      ∙ run_build true end ws 0 NoMethods (Procedures ∷ Build MakeClass ∷ tail) (Vars fs ∷ AParent p ∷ below) in
      let f = methods_kept r3 k (Build MakeClass ∷ tail) [] (Vars fs ∷ AParent p ∷ below) (sym e ∙ o.1) in
      (o.0, f.0, f.1)

  pub classes_kept : {ts rest : List Token} {xs : List ClassText} (r : IsClasses ts rest xs) (c : ℕ) → c ≤ MOST_CLASSES
      → Closed true end rest → here (is_word word.Method) rest ≡ false
      → (s : List Part) (ys : List ClassText) (vs : List ParsedValue) → Good ts 0 (Program c ∷ s) (Classes ys ∷ vs)
      → (c + length xs ≤ MOST_CLASSES) × All (λ text. All IsSmallMethod text.methods) xs
      × (classes_parens r ≤ MOST_PARENS)
  classes_kept (no_class {rest}) c f k b s ys vs h = (
    omega (arith, f),
    All-nil (λ (text : ClassText). All IsSmallMethod text.methods),
    omega arith,
  )
  classes_kept (classes {ts} {mid} {rest} {x} {xs} r rs) c f k b s ys vs h =
      let m = class_kept r c (closed_classes true end rs k) (other_classes true end rs b) s ys vs h in
      let e = class_reads true end r c (λ t. m.0) (λ t. m.1) (λ t. m.2) (closed_classes true end rs k)
      (other_classes true end rs b) s ys vs in
      let g = classes_kept rs (suc c) (omega (arith, m.0)) k b s (ys ++ x ∷ []) vs (sym e ∙ h) in (
        omega (arith, g.0),
        All-cons (λ (text : ClassText). All IsSmallMethod text.methods) x xs m.1 g.1,
        omega (arith, m.2, g.2),
      )
