-- What `construct` and a call on an element mean, written out.
use Rattle.std.specs.Prelude.{◌≡◌, ℕ, Bool, not, List, [], map, Some}
use Rattle.roopl_semantics.specs.rpp_tree.declared.tree.Ident.{Ident}
use Rattle.roopl_semantics.specs.rpp_tree.declared.tree.Var.{Var}
use Rattle.roopl_semantics.specs.rpp_tree.declared.tree.VarType.{VarType}
use Rattle.roopl_semantics.specs.rpp_tree.declared.tree.VarType.TheVariants as kind
use Rattle.roopl_semantics.specs.rpp_tree.Tree.{Expression, Null, Whole, Item, Object as AnObject, Statement}
use Rattle.roopl_semantics.specs.rpp_tree.Tree.{Statements, Swap, Construct, Local, New, Delete, Call, End, Then}
use Rattle.roopl_semantics.specs.rpp_tree.Tree.{joined}
use Rattle.roopl_semantics.specs.inverse_rules.Inverse.{inverse_statement, inverse}
use Rattle.roopl_semantics.specs.Store.{State}
use Rattle.roopl_semantics.specs.Execution.{Setting, exec}
use Rattle.meaning_points.specs.Points.{Point, points}

-- the offsets of the tokens of a written source, by their number
abbrev pub Spots : Type 0
Spots = ℕ → ℕ

-- all at one place
abbrev pub all_at : ℕ → Spots
all_at at = λ word. at

abbrev pub ident_at : ℕ → List ℕ → Ident
ident_at at text = record { at = at; text = text }

abbrev pub var_at : VarType → ℕ → List ℕ → Var
var_at class at text = record { kind = class; name = ident_at at text }

-- local C x = nil new C x body delete C x delocal C x = nil
abbrev pub construct_written : Spots → List ℕ → List ℕ → Statements → Statement
construct_written at class name body =
    Local (at 0) (var_at (kind.Class (ident_at (at 1) class)) (at 2) name) (Null (at 3))
    (Then (New (at 4) (AnObject (ident_at (at 5) class)) (Whole (ident_at (at 6) name)))
    (joined body
    (Then (Delete (at 7) (AnObject (ident_at (at 8) class)) (Whole (ident_at (at 9) name))) End)))
    (var_at (kind.Class (ident_at (at 10) class)) (at 11) name) (Null (at 12))

-- local C t = nil t <=> a[e] call t::q(..) t <=> a[e] delocal C t = nil, where the name of t is
-- empty, so that no program has it
abbrev pub call_written : Spots → VarType → Bool → Ident → Expression → Ident → List Ident
    → Statement
call_written at class back name index method args =
    Local (at 0) (var_at class (at 1) []) (Null (at 2))
    (Then (Swap (at 3) (Whole (ident_at (at 4) [])) (Item name index))
    (Then (Call (at 5) back (Some (Whole (ident_at (at 6) []))) method args)
    (Then (Swap (at 7) (Whole (ident_at (at 8) [])) (Item name index)) End)))
    (var_at class (at 9) []) (Null (at 10))

-- two statements do the same before any others
abbrev pub DoesAs : Statement → Statement → Type 0
DoesAs s t =
    (setting : Setting) (n : ℕ) (rest : Statements) (st : State)
    → exec setting n (Then s rest) st ≡ exec setting n (Then t rest) st

-- and they have the same trace points
abbrev pub HasPointsOf : Statement → Statement → Type 0
HasPointsOf s t =
    (setting : Setting) (n params : ℕ) (rest : Statements) (st : State)
    → points setting n params (Then s rest) st ≡ points setting n params (Then t rest) st

-- a trace point without its place
abbrev pub placeless : Point → Point
placeless point = record point { place = 0 }

-- or the same except for their offsets
abbrev pub HasMovedPointsOf : Statement → Statement → Type 0
HasMovedPointsOf s t =
    (setting : Setting) (n params : ℕ) (rest : Statements) (st : State)
    → map placeless (points setting n params (Then s rest) st)
    ≡ map placeless (points setting n params (Then t rest) st)

-- `construct` is what it means: run there and back, and wherever that is written
pub record ConstructIsWrittenOut : Type 0 where
  pub does : (at : ℕ) (class name end : Ident) (body : Statements) (spots : Spots)
      → DoesAs (Construct at class name body end)
      (construct_written spots class.text name.text body)
  pub points : (at : ℕ) (class name end : Ident) (body : Statements)
      → HasPointsOf (Construct at class name body end)
      (construct_written (all_at at) class.text name.text body)
  pub moved : (at : ℕ) (class name end : Ident) (body : Statements) (spots : Spots)
      → HasMovedPointsOf (Construct at class name body end)
      (construct_written spots class.text name.text body)
  pub undone : (at : ℕ) (class name : List ℕ) (body : Statements)
      → inverse_statement (construct_written (all_at at) class name body)
      ≡ construct_written (all_at at) class name (inverse body)

-- and so is a call on an element, whatever the type of its elements
pub record CallIsWrittenOut : Type 0 where
  pub does : (at : ℕ) (class : VarType) (back : Bool) (name : Ident) (index : Expression)
      (method : Ident) (args : List Ident) (spots : Spots)
      → DoesAs (Call at back (Some (Item name index)) method args)
      (call_written spots class back name index method args)
  pub points : (at : ℕ) (class : VarType) (back : Bool) (name : Ident) (index : Expression)
      (method : Ident) (args : List Ident)
      → HasPointsOf (Call at back (Some (Item name index)) method args)
      (call_written (all_at at) class back name index method args)
  pub moved : (at : ℕ) (class : VarType) (back : Bool) (name : Ident) (index : Expression)
      (method : Ident) (args : List Ident) (spots : Spots)
      → HasMovedPointsOf (Call at back (Some (Item name index)) method args)
      (call_written spots class back name index method args)
  pub undone : (at : ℕ) (class : VarType) (back : Bool) (name : Ident) (index : Expression)
      (method : Ident) (args : List Ident)
      → inverse_statement (call_written (all_at at) class back name index method args)
      ≡ call_written (all_at at) class (not back) name index method args
