-- An inverted statement has the offset that it had.
use Rattle.std.proofs.Common.{◌≡◌, refl, Bool, true, false}
use Rattle.source_blocks.specs.rpp_tree.Tree.{Statement, Update, Swap, If, From, Construct, Local, New, Delete, Copy, Uncopy, Call}
use Rattle.source_blocks.specs.rpp_tree.Tree.{Skip}
use Rattle.source_blocks.specs.rpp_tree.Places.{statement_place}
use Rattle.source_blocks.specs.inverse_rules.Inverse.{inverse_statement}
use Rattle.source_blocks.specs.source_steps.Ends.{turned}

place_undone : (s : Statement) → statement_place s ≡ statement_place (inverse_statement s)
place_undone (Update at op target value) = refl
place_undone (Swap at left right) = refl
place_undone (If at test taken other after) = refl
place_undone (From at entry first again exit) = refl
place_undone (Construct at class name body end) = refl
place_undone (Local at var value body end_var end_value) = refl
place_undone (New at made target) = refl
place_undone (Delete at made target) = refl
place_undone (Copy at kind source target) = refl
place_undone (Uncopy at kind source target) = refl
place_undone (Call at back receiver method args) = refl
place_undone (Skip at) = refl

pub place_turned : (back : Bool) (s : Statement) → statement_place s ≡ statement_place (turned back s)
place_turned true s = place_undone s
place_turned false s = refl
