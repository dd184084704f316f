-- Objects with another value or another count, and blocks in the other direction.
use Rattle.std.proofs.Common.{◌≡◌, ℕ, Bool, true, false, not, refl, sym}
use Rattle.std.specs.List.{slice_set}
use Rattle.inverse_rules.specs.rpp_tree.Tree.{Statements}
use Rattle.inverse_rules.specs.Inverse.{inverse}
use Rattle.inverse_rules.proofs.Inverses.{inverse-twice}
use Rattle.roopl_semantics.specs.Store.{Value, Object}
use Rattle.roopl_semantics.specs.Execution.{in_direction}

-- an object with another value in a cell
abbrev pub with_cell : ℕ → Value → Object → Object
with_cell index v object = record object { cells = slice_set object.cells index v }

-- an object with another count
abbrev pub with_count : (ℕ → ℕ) → Object → Object
with_count change object = record object { count = change object.count }

pub direction_undone : (back : Bool) (body : Statements)
    → in_direction (not back) body ≡ inverse (in_direction back body)
direction_undone true body = sym (inverse-twice true body)
direction_undone false body = refl
