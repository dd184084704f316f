-- Fragments of statements and of blocks, from the code of their parts.
use Rattle.std.proofs.Common.{◌≡◌, ℕ, ◌+◌, ◌*◌, ◌<◌, ◌≤◌, List, [], ◌++◌, length, refl, sym, ap, ◌∙◌, subst, arith}
use Rattle.std.proofs.Common.{length-append, append_assoc, append-nil}
use Rattle.std.proofs.lemmas.List.Sorted.{length_permutation}
use Rattle.branch_codegen.specs.code_conventions.declared.memory.TheConstants.{MOST_VARIABLES}
use Rattle.refine_objects.specs.rpp_tree.declared.tree.Ident.{Ident}
use Rattle.refine_objects.specs.rpp_tree.declared.tree.Var.{Var}
use Rattle.refine_objects.specs.rpp_tree.declared.tree.VarType.TheVariants as type
use Rattle.refine_objects.specs.rpp_tree.Tree.{Expression, Number, Null, Variable, Element, Binary, Lvalue, Whole, Item, Object}
use Rattle.refine_objects.specs.rpp_tree.Tree.{Statement, Statements, Update, If, From, Construct, Local, New, End, Then}
use Rattle.refine_objects.specs.rpp_tree.Places.{statement_place}
use Rattle.refine_objects.specs.rpp_tree.Views.{source_of}
use Rattle.refine_objects.specs.rpp_tree.Parts.{expression_tokens, lvalue_tokens, statement_tokens, block_tokens}
use Rattle.branch_codegen.specs.pisa_isa.declared.notes.Mark.{Mark}
use Rattle.branch_codegen.specs.paired_code.declared.part.Symbol.{Symbol}
use Rattle.branch_codegen.specs.paired_code.Code.{Code, shift, unmarked, seq_code, marked_code}
use Rattle.refine_form.specs.Form.{Scope, with_var}
use Rattle.refine_form.specs.Held.{HoldsCode, HoldsBoth}
use Rattle.refine_form.proofs.Holding.{shift_append, shift_zero, shift_shift}
use Rattle.refine_form.proofs.Stated.{nothing_is_a_block, blocks_are_rows}
use Rattle.branch_codegen.specs.code_scope.Visible.{Visible, known_in}
use Rattle.branch_codegen.specs.register_expressions.Steps.{token_count}
use Rattle.branch_codegen.specs.expr_uncompute.Steps.{place_tokens}
use Rattle.statement_codegen.specs.Codes.{scope_of, with_variable, IsStatementCode, IsBlockCode, IsAllowed}
use Rattle.branch_codegen.specs.Laws.{IfLaw, FromLaw}
use Rattle.statement_codegen.specs.Laws.{LocalLaw, ConstructLaw}
use Rattle.statement_codegen.proofs.Stands.{if_stands, from_stands, local_stands}
use Rattle.statement_codegen.specs.Rows.{row_before, inner_rows, block_rows}
use Rattle.statement_codegen.specs.Ranges.{IsRange, MarksOf}
use Rattle.statement_codegen.specs.Pieces.{StatementStands, IsRowCode, HaveMarks, StandsIn, cells_a_token, InnerPiece}
use Rattle.statement_codegen.specs.Pieces.{BlockPiece}
use Rattle.statement_codegen.proofs.Nesting.{each_length}
use Rattle.statement_codegen.proofs.Marks.{no_marks, marks_in, marks_right, marks_seq, marks_whole, covered_whole}
use Rattle.statement_codegen.proofs.Marks.{covered_none, covered_seq}

-- ---- tokens

pub tokens_are : (e : Expression) → token_count e ≡ expression_tokens e
tokens_are (Number at word) = refl
tokens_are (Null at) = refl
tokens_are (Variable name) = refl
tokens_are (Element name index) = ap (λ n. 3 + n) (tokens_are index)
tokens_are (Binary at op left right) = let a = tokens_are left in let b = tokens_are right in omega (arith, a, b)

pub place_tokens_are : (place : Lvalue) → place_tokens place ≡ lvalue_tokens place
place_tokens_are (Whole name) = refl
place_tokens_are (Item name index) = ap (λ n. 3 + n) (tokens_are index)

-- ---- fragments one after another

abbrev piece : List Symbol → List Mark → Code
piece cells marks = record { cells = cells; marks = marks }

-- two fragments before another, and after it
none_before : (q : Code) → seq_code (unmarked []) q ≡ q
none_before q = ap (piece q.cells) (shift_zero q.marks)

none_behind : (p : Code) → seq_code p (unmarked []) ≡ p
none_behind p = ap (piece (p.cells ++ [])) (append-nil p.marks) ∙ ap (λ z. piece z p.marks) (append-nil p.cells)

regrouped : (a b c : Code) → seq_code (seq_code a b) c ≡ seq_code a (seq_code b c)
regrouped a b c =
    let n = length a.cells in
    let m = length b.cells in
    let e : length (a.cells ++ b.cells) ≡ n + m = length-append a.cells b.cells in
    let marks : (a.marks ++ shift n b.marks) ++ shift (length (a.cells ++ b.cells)) c.marks
    ≡ a.marks ++ shift n (b.marks ++ shift m c.marks) =
    ap (λ k. (a.marks ++ shift n b.marks) ++ shift k c.marks) e
    ∙ ap (λ z. (a.marks ++ shift n b.marks) ++ z) (sym (shift_shift n m c.marks))
    ∙ append_assoc a.marks (shift n b.marks) (shift n (shift m c.marks))
    ∙ ap (λ z. a.marks ++ z) (sym (shift_append n b.marks (shift m c.marks))) in
    ap (piece ((a.cells ++ b.cells) ++ c.cells)) marks ∙ ap
    (λ z. piece z (a.marks ++ shift n (b.marks ++ shift m c.marks))) (append_assoc a.cells b.cells c.cells)

-- ---- statements

module _ (v : Visible) where
  abbrev Law : Scope → Statement → List Symbol → Type 0
  Law = IsRowCode (source_of v.program)

  row_code : (x : Statement) (cells : List Symbol) → IsStatementCode v x cells → Law (scope_of v) x cells
  row_code x cells h = record { law = h.law }

  -- a statement that holds two others
  pub plain_inner : (x : Statement) (p : Code) → p.marks ≡ [] → inner_rows (scope_of v) x ≡ []
      → IsStatementCode v x p.cells → length p.cells ≤ cells_a_token * statement_tokens x → InnerPiece v x p
  plain_inner x p none rows law size = record {
    law = law;
    marks = subst (λ z. MarksOf Law z p) (sym rows) (no_marks Law p none);
    size = size;
  }

  pub if_inner : (at : ℕ) (test after : Expression) (taken other : Statements) (one two p : Code)
      → StatementStands v (If at test taken other after)
      → IfLaw (known_in v) test after one.cells two.cells p.cells → HoldsBoth two one p
      → length p.cells ≤ 58 * (token_count test + token_count after) + length one.cells + length two.cells + 18
      → BlockPiece v taken one → BlockPiece v other two → InnerPiece v (If at test taken other after) p
  if_inner at test after taken other one two p h made held size a b = record {
    law = if_stands v at test after taken other one.cells two.cells p.cells made h.allowed a.law b.law;
    marks = marks_right Law (block_rows (scope_of v) other) (block_rows (scope_of v) taken) two one p held b.marks
        a.marks;
    size = let s = a.size in let t = b.size in let e = tokens_are test in let f = tokens_are after in
        omega (arith, size, s, t, e, f);
  }

  pub from_inner : (at : ℕ) (entry exit : Expression) (first again : Statements) (one two p : Code)
      → StatementStands v (From at entry first again exit)
      → FromLaw (known_in v) entry exit one.cells two.cells p.cells → HoldsBoth two one p
      → length p.cells ≤ 58 * (token_count entry + token_count exit) + length one.cells + length two.cells + 18
      → BlockPiece v first one → BlockPiece v again two → InnerPiece v (From at entry first again exit) p
  from_inner at entry exit first again one two p h made held size a b = record {
    law = from_stands v at entry exit first again one.cells two.cells p.cells made h.allowed a.law b.law;
    marks = marks_right Law (block_rows (scope_of v) again) (block_rows (scope_of v) first) two one p held b.marks
        a.marks;
    size = let s = a.size in let t = b.size in let e = tokens_are entry in let f = tokens_are exit in
        omega (arith, size, s, t, e, f);
  }

  pub local_inner : (at : ℕ) (var : Var) (value : Expression) (body : Statements) (end_var : Var) (last : Expression)
      (inside p : Code) → StatementStands v (Local at var value body end_var last)
      → LocalLaw (known_in v) var value last inside.cells p.cells → HoldsCode inside p
      → length p.cells ≤ 58 * (token_count value + token_count last) + length inside.cells + 12
      → BlockPiece (with_variable v var) body inside → InnerPiece v (Local at var value body end_var last) p
  local_inner at var value body end_var last inside p h made held size a = record {
    law = local_stands v at var value body end_var last inside.cells p.cells made h.allowed a.law;
    marks = marks_in Law (block_rows (scope_of (with_variable v var)) body) inside p held a.marks;
    size = let s = a.size in let e = tokens_are value in let f = tokens_are last in omega (arith, size, s, e, f);
  }

  -- an object for a block, over the code of `new`, which has at most 432 cells
  pub construct_inner : (at : ℕ) (class name : Ident) (body : Statements) (end : Ident) (making : List Symbol)
      (inside p : Code) → IsAllowed v (Construct at class name body end)
      → ConstructLaw v at (record { kind = type.Class class; name = name }) making inside.cells p.cells
      → HoldsCode inside p
      → length p.cells ≤ 2 * length making + length inside.cells + 128 → length making ≤ 432
      → IsStatementCode (with_variable v (record { kind = type.Class class; name = name }))
      (New at (Object class) (Whole name)) making
      → BlockPiece (with_variable v (record { kind = type.Class class; name = name })) body inside
      → InnerPiece v (Construct at class name body end) p
  construct_inner at class name body end making inside p allowed made held size small new a = record {
    law = made.law class body end refl (let f = allowed.few_locals in
        let q : length v.variables < MOST_VARIABLES = omega (arith, f) in q) new a.law;
    marks = marks_in Law (block_rows (scope_of (with_variable v (record { kind = type.Class class; name = name })))
        body) inside p held a.marks;
    size = let s = a.size in omega (arith, size, small, s);
  }

  -- ---- blocks

  no_statements : IsBlockCode v End []
  no_statements = record { law = λ place routine linked same. nothing_is_a_block place (scope_of v) }

  code_before : (first : Statement) (rest : Statements) (p q : List Symbol) → IsStatementCode v first p
      → IsBlockCode v rest q → IsBlockCode v (Then first rest) (p ++ q)
  code_before first rest p q h k = record {
    law = λ place routine linked same. blocks_are_rows place (scope_of v) first
        rest p q (h.law place routine linked same) (k.law place routine linked same);
  }

  end_piece : BlockPiece v End (unmarked [])
  end_piece = record {
    law = no_statements;
    marks = no_marks Law (unmarked []) refl;
    covered = covered_none (unmarked []) refl;
    size = omega arith;
  }

  then_piece : (x : Statement) (rest : Statements) (inner q : Code) → InnerPiece v x inner → BlockPiece v rest q
      → BlockPiece v (Then x rest) (seq_code (marked_code (statement_place x) inner) q)
  then_piece x rest inner q h k =
      let p = marked_code (statement_place x) inner in
      record {
        law = code_before x rest inner.cells q.cells h.law k.law;
        marks =
            marks_seq Law (row_before (scope_of v) x (inner_rows (scope_of v) x)) (block_rows (scope_of v) rest) p q
            (marks_whole Law (scope_of v) x (inner_rows (scope_of v) x) inner (row_code x inner.cells h.law) h.marks)
            k.marks;
        covered = covered_seq p q (covered_whole (statement_place x) inner) k.covered;
        size = let a = h.size in let b = k.size in omega (arith, a, b, length-append inner.cells q.cells);
      }

  -- if the rest of a block has a fragment, the whole block has it after this one
  pub record LeadsOn (whole rest : Statements) (p : Code) : Type 0 where
    pub leads : (q : Code) → BlockPiece v rest q → BlockPiece v whole (seq_code p q)

  pub leads_first : (whole : Statements) → LeadsOn whole whole (unmarked [])
  leads_first whole = record { leads = λ q h. subst (BlockPiece v whole) (sym (none_before q)) h }

  pub leads_next : (whole : Statements) (x : Statement) (rest : Statements) (p inner r : Code)
      → LeadsOn whole (Then x rest) p → InnerPiece v x inner → r ≡ seq_code p (marked_code (statement_place x) inner)
      → LeadsOn whole rest r
  leads_next whole x rest p inner r h k is =
      let q = marked_code (statement_place x) inner in
      record {
        leads = λ s b. subst (λ z. BlockPiece v whole (seq_code z s)) (sym is)
            (subst (BlockPiece v whole) (sym (regrouped p q s))
            (h.leads (seq_code q s) (then_piece x rest inner s k b)));
      }

  pub leads_last : (whole : Statements) (p : Code) → LeadsOn whole End p → BlockPiece v whole p
  leads_last whole p h = subst (BlockPiece v whole) (none_behind p) (h.leads (unmarked []) end_piece)

-- where a block is being made: of the statements that are left, in the scope that it began with
pub record IsMaking (v : Visible) (whole rest : Statements) (scope : Visible) (p : Code) : Type 0 where
  pub leads : LeadsOn v whole rest p
  pub stands : StandsIn v rest
  pub same : scope ≡ v

-- ---- how many marks there are

mutual
  rows_few : (s : Scope) (body : Statements) → length (block_rows s body) ≤ block_tokens body
  rows_few s End = omega arith
  rows_few s (Then first rest) = let a = inner_few s first in let b = rows_few s rest in
      omega (arith, a, b, length-append (row_before s first (inner_rows s first)) (block_rows s rest))

  inner_few : (s : Scope) (x : Statement) → length (inner_rows s x) + 1 ≤ statement_tokens x
  inner_few s (Update at op target value) = omega arith
  inner_few s (If at test taken other after) = let a = rows_few s taken in let b = rows_few s other in
      omega (arith, a, b, length-append (block_rows s taken) (block_rows s other))
  inner_few s (From at entry first again exit) = let a = rows_few s first in let b = rows_few s again in
      omega (arith, a, b, length-append (block_rows s first) (block_rows s again))
  inner_few s (Construct at class name body end) = let a =
      rows_few (with_var s (record { kind = type.Class class; name = name })) body in omega (arith, a)
  inner_few s (Local at var value body end_var end_value) = let a = rows_few (with_var s var) body in omega (arith, a)
  inner_few s _ = omega arith

pub marks_few : (v : Visible) (body : Statements) (p : Code) → HaveMarks v body p → length p.marks ≤ block_tokens body
marks_few v body p h =
    let a = length_permutation p.marks h.ranges h.same in
    let b = each_length (IsRange (IsRowCode (source_of v.program)) p.cells) (block_rows (scope_of v) body) h.ranges
    h.each in
    let c = rows_few (scope_of v) body in
    omega (arith, a, b, c)
