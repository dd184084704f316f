-- The walk over the statements of a block.
use Rattle.std.proofs.Common.{◌≡◌, ℕ, zero, suc, ◌+◌, ◌*◌, ◌<◌, ◌≤◌, List, [], ◌∷◌, length, map, drop, refl, sym, ap}
use Rattle.std.proofs.Common.{◌∙◌, subst, arith}
use Rattle.std.proofs.Math.ListN.{get_or, drop_of_length-le}
use Rattle.std.proofs.Math.Seq.{drop-cons}
use Rattle.refine_objects.specs.rpp_tree.declared.tree.Stmt.{Stmt}
use Rattle.refine_objects.specs.rpp_tree.declared.tree.Ident.{Ident}
use Rattle.refine_objects.specs.rpp_tree.declared.tree.Var.{Var}
use Rattle.refine_objects.specs.rpp_tree.Tree.{Expression, Statement, Statements, If, From, Construct, Local, End, Then}
use Rattle.refine_objects.specs.rpp_tree.Parts.{statement_tokens, block_tokens}
use Rattle.refine_objects.specs.rpp_tree.Views.{statement_of, statements_of}
use Rattle.branch_codegen.specs.pisa_isa.declared.notes.TheConstants.{LAST_PLACE}
use Rattle.branch_codegen.specs.paired_code.Code.{Code, unmarked, seq_code, marked_code}
use Rattle.branch_codegen.specs.code_scope.Visible.{Visible}
use Rattle.refine_objects.specs.rpp_tree.Places.{statement_place}
use Rattle.statement_codegen.specs.Pieces.{StatementStands, StandsIn, InnerPiece, BlockPiece}
use Rattle.statement_codegen.proofs.Standing.{own_place, first_stands, rest_stands}
use Rattle.statement_codegen.proofs.Pieces.{LeadsOn, leads_first, leads_next, leads_last, IsMaking}

-- the statements that are left
abbrev pub left_of : List Stmt → ℕ → Statements
left_of items i = statements_of (map statement_of (drop i items))

left_is : (items : List Stmt) (i : ℕ) (x : Stmt) → i < length items → x ≡ get_or items i x
    → left_of items i ≡ Then (statement_of x) (left_of items (i + 1))
left_is items i x l is =
    let n : suc i ≡ i + 1 = omega arith in
    ap (λ z. statements_of (map statement_of z)) (drop-cons items i x l ∙ ap (λ z. z ∷ drop (suc i) items) (sym is)
    ∙ ap (λ k. x ∷ drop k items) n)

-- a statement's place is one that a mark may have
pub place_fits : (v : Visible) (x : Statement) → StatementStands v x → statement_place x ≤ LAST_PLACE
place_fits v x h = let a : statement_place x < 1048576 = own_place x h.places in omega (arith, a)

pub item_stands : (v : Visible) (items : List Stmt) (i : ℕ) (x : Stmt) → i < length items → x ≡ get_or items i x
    → StandsIn v (left_of items i) → StatementStands v (statement_of x)
item_stands v items i x l is h = first_stands v (statement_of x) (left_of items (i + 1))
    (subst (StandsIn v) (left_is items i x l is) h)

pub making_first : (v : Visible) (whole rest : Statements) (p : Code) → whole ≡ rest → p ≡ unmarked []
    → StandsIn v whole → IsMaking v whole rest v p
making_first v whole rest p is none h = record {
  leads = subst (λ z. LeadsOn v whole z p) is (subst (LeadsOn v whole whole) (sym none) (leads_first v whole));
  stands = subst (StandsIn v) is h;
  same = refl;
}

pub making_next : (v : Visible) (whole : Statements) (items : List Stmt) (i : ℕ) (x : Stmt) (scope next : Visible)
    (p inner r : Code) → i < length items → x ≡ get_or items i x → IsMaking v whole (left_of items i) scope p
    → InnerPiece scope (statement_of x) inner → next ≡ scope
    → r ≡ seq_code p (marked_code (statement_place (statement_of x)) inner)
    → IsMaking v whole (left_of items (i + 1)) next r
making_next v whole items i x scope next p inner r l is h made stays joined =
    let e = left_is items i x l is in
    record {
      leads = leads_next v whole (statement_of x) (left_of items (i + 1)) p inner r
          (subst (λ z. LeadsOn v whole z p) e h.leads) (subst (λ z. InnerPiece z (statement_of x) inner) h.same made)
          joined;
      stands = rest_stands v (statement_of x) (left_of items (i + 1)) (subst (StandsIn v) e h.stands);
      same = stays ∙ h.same;
    }

pub making_last : (v : Visible) (whole : Statements) (items : List Stmt) (i : ℕ) (scope : Visible) (p : Code)
    → length items ≤ i → IsMaking v whole (left_of items i) scope p → BlockPiece v whole p
making_last v whole items i scope p l h =
    let e : left_of items i ≡ End = ap (λ z. statements_of (map statement_of z)) (drop_of_length-le items {i = i} l) in
    leads_last v whole p (subst (λ z. LeadsOn v whole z p) e h.leads)

-- ---- the walk ends: each block has fewer tokens than the statement that holds it, and no fewer
-- than each of its statements

member_tokens : (items : List Stmt) (i : ℕ) (x : Stmt) → i < length items → x ≡ get_or items i x
    → statement_tokens (statement_of x) ≤ block_tokens (statements_of (map statement_of items))
member_tokens [] i x l is = absurd (omega arith)
member_tokens (y ∷ items) zero x l is = let e : statement_tokens (statement_of x) ≡ statement_tokens (statement_of y) =
    ap (λ z. statement_tokens (statement_of z)) is in omega (arith, e)
member_tokens (y ∷ items) (suc i) x l is = let a = member_tokens items i x (omega arith) is in omega (arith, a)

pub item_falls : (whole : Statements) (items : List Stmt) (i : ℕ) (x : Stmt)
    → whole ≡ statements_of (map statement_of items) → i < length items → x ≡ get_or items i x
    → 2 * statement_tokens (statement_of x) < 2 * block_tokens whole + 1
item_falls whole items i x e l is = let a = member_tokens items i x l is in let f = ap block_tokens e in
    omega (arith, a, f)

pub if_falls : (x : Statement) (at : ℕ) (test after : Expression) (taken other : Statements)
    → x ≡ If at test taken other after → (2 * block_tokens taken + 1 < 2 * statement_tokens x)
    × (2 * block_tokens other + 1 < 2 * statement_tokens x)
if_falls x at test after taken other is = let e = ap statement_tokens is in (omega (arith, e), omega (arith, e))

pub from_falls : (x : Statement) (at : ℕ) (entry exit : Expression) (first again : Statements)
    → x ≡ From at entry first again exit → (2 * block_tokens first + 1 < 2 * statement_tokens x)
    × (2 * block_tokens again + 1 < 2 * statement_tokens x)
from_falls x at entry exit first again is = let e = ap statement_tokens is in (omega (arith, e), omega (arith, e))

pub construct_falls : (x : Statement) (at : ℕ) (class name : Ident) (body : Statements) (end : Ident)
    → x ≡ Construct at class name body end → 2 * block_tokens body + 1 < 2 * statement_tokens x
construct_falls x at class name body end is = let e = ap statement_tokens is in omega (arith, e)

pub local_falls : (x : Statement) (at : ℕ) (var : Var) (value : Expression) (body : Statements) (end_var : Var)
    (last : Expression) → x ≡ Local at var value body end_var last → 2 * block_tokens body + 1 < 2 * statement_tokens x
local_falls x at var value body end_var last is = let e = ap statement_tokens is in omega (arith, e)
