-- What each kind of statement shows.
use Rattle.std.specs.Prelude.{◌≡◌, ℕ, Bool, Option}
use Rattle.std.specs.declared.alloc.Global.{Global}
use Rattle.std.proofs.Common.{sym, ◌∙◌, ap, rules, Vec}
use Rattle.rpp_tree.specs.declared.tree.Ident.{Ident}
use Rattle.rpp_tree.specs.declared.tree.Var.{Var}
use Rattle.rpp_tree.specs.declared.tree.VarType.{VarType}
use Rattle.rpp_tree.specs.declared.tree.UpdateOp.{UpdateOp}
use Rattle.rpp_tree.specs.declared.tree.Expr.{Expr}
use Rattle.rpp_tree.specs.declared.tree.Place.{Place}
use Rattle.rpp_tree.specs.declared.tree.Made.{Made}
use Rattle.rpp_tree.specs.declared.tree.Block.{Block}
use Rattle.rpp_tree.specs.declared.tree.Stmt.TheVariants as stmt
use Rattle.rpp_tree.specs.declared.tree.Stmt.TheFolds.{fold-roll-Stmt}
use Rattle.rpp_tree.specs.Tree.{Update, Swap, If, From, Construct, Local, New, Delete, Copy, Uncopy, Call, Skip}
use Rattle.rpp_tree.specs.Views.{expression_of, lvalue_of, optional_lvalue_of, creation_of, statement_of, block_of}

pub statement_update : (at : ℕ) (op : UpdateOp) (place : Place) (value : Expr)
    → statement_of (stmt.Update at op place value) ≡ Update at op (lvalue_of place) (expression_of value)
statement_update at op place value = ap statement_of (sym (stmt.rolls-Update at op place value))
    ∙ search (rules, fold-roll-Stmt)

pub statement_swap : (at : ℕ) (left right : Place) → statement_of (stmt.Swap at left right)
    ≡ Swap at (lvalue_of left) (lvalue_of right)
statement_swap at left right = ap statement_of (sym (stmt.rolls-Swap at left right)) ∙ search (rules, fold-roll-Stmt)

pub statement_if : (at : ℕ) (test : Expr) (taken other : Block) (after : Expr)
    → statement_of (stmt.If at test taken other after) ≡ If at (expression_of test) (block_of taken) (block_of other)
    (expression_of after)
statement_if at test taken other after = ap statement_of (sym (stmt.rolls-If at test taken other after))
    ∙ search (rules, fold-roll-Stmt)

pub statement_from : (at : ℕ) (entry : Expr) (first again : Block) (exit : Expr)
    → statement_of (stmt.From at entry first again exit) ≡ From at (expression_of entry) (block_of first)
    (block_of again) (expression_of exit)
statement_from at entry first again exit = ap statement_of (sym (stmt.rolls-From at entry first again exit))
    ∙ search (rules, fold-roll-Stmt)

pub statement_construct : (at : ℕ) (class name : Ident) (body : Block) (end : Ident)
    → statement_of (stmt.Construct at class name body end) ≡ Construct at class name (block_of body) end
statement_construct at class name body end = ap statement_of (sym (stmt.rolls-Construct at class name body end))
    ∙ search (rules, fold-roll-Stmt)

pub statement_local : (at : ℕ) (var : Var) (value : Expr) (body : Block) (end_var : Var) (end_value : Expr)
    → statement_of (stmt.Local at var value body end_var end_value)
    ≡ Local at var (expression_of value) (block_of body) end_var (expression_of end_value)
statement_local at var value body end_var end_value = ap statement_of
    (sym (stmt.rolls-Local at var value body end_var end_value)) ∙ search (rules, fold-roll-Stmt)

pub statement_new : (at : ℕ) (made : Made) (place : Place)
    → statement_of (stmt.New at made place) ≡ New at (creation_of made) (lvalue_of place)
statement_new at made place = ap statement_of (sym (stmt.rolls-New at made place)) ∙ search (rules, fold-roll-Stmt)

pub statement_delete : (at : ℕ) (made : Made) (place : Place)
    → statement_of (stmt.Delete at made place) ≡ Delete at (creation_of made) (lvalue_of place)
statement_delete at made place = ap statement_of (sym (stmt.rolls-Delete at made place))
    ∙ search (rules, fold-roll-Stmt)

pub statement_copy : (at : ℕ) (kind : VarType) (source target : Place)
    → statement_of (stmt.Copy at kind source target) ≡ Copy at kind (lvalue_of source) (lvalue_of target)
statement_copy at kind source target = ap statement_of (sym (stmt.rolls-Copy at kind source target))
    ∙ search (rules, fold-roll-Stmt)

pub statement_uncopy : (at : ℕ) (kind : VarType) (source target : Place)
    → statement_of (stmt.Uncopy at kind source target) ≡ Uncopy at kind (lvalue_of source) (lvalue_of target)
statement_uncopy at kind source target = ap statement_of (sym (stmt.rolls-Uncopy at kind source target))
    ∙ search (rules, fold-roll-Stmt)

pub statement_call : (at : ℕ) (back : Bool) (receiver : Option Place) (method : Ident) (args : Vec Ident Global)
    → statement_of (stmt.Call at back receiver method args)
    ≡ Call at back (optional_lvalue_of receiver) method args.items
statement_call at back receiver method args = ap statement_of (sym (stmt.rolls-Call at back receiver method args))
    ∙ search (rules, fold-roll-Stmt)

pub statement_skip : (at : ℕ) → statement_of (stmt.Skip at) ≡ Skip at
statement_skip at = ap statement_of (sym (stmt.rolls-Skip at)) ∙ search (rules, fold-roll-Stmt)
