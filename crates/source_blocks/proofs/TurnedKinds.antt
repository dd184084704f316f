-- The kinds of statements, as they are and inverted.
use Rattle.std.proofs.Common.{◌≡◌, refl, Bool, true, false}
use Rattle.source_steps.specs.rpp_tree.Tree.{Statement, Update, Swap, If, From, Construct, Local, New, Delete, Copy, Uncopy, Call}
use Rattle.source_steps.specs.rpp_tree.Tree.{Skip}
use Rattle.source_steps.specs.Ends.{turned}
use Rattle.source_blocks.specs.Requests.{is_request}
use Rattle.source_blocks.specs.Runs.{IsSimple}

pub simple_before : (back : Bool) (s : Statement) → IsSimple (turned back s) → IsSimple s
simple_before false s i = i
simple_before true (Update at op target value) i = tt
simple_before true (Swap at l r) i = tt
simple_before true (If at test taken other after) i = absurd i
simple_before true (From at entry first again exit) i = absurd i
simple_before true (Construct at class name body end) i = absurd i
simple_before true (Local at var value body end_var end_value) i = absurd i
simple_before true (New at made target) i = tt
simple_before true (Delete at made target) i = tt
simple_before true (Copy at kind source target) i = tt
simple_before true (Uncopy at kind source target) i = tt
simple_before true (Call at back receiver method args) i = absurd i
simple_before true (Skip at) i = tt

pub asks_turned : (back : Bool) (s : Statement) → is_request s ≡ is_request (turned back s)
asks_turned false s = refl
asks_turned true (Update at op target value) = refl
asks_turned true (Swap at left right) = refl
asks_turned true (If at test taken other after) = refl
asks_turned true (From at entry first again exit) = refl
asks_turned true (Construct at class name body end) = refl
asks_turned true (Local at var value body end_var end_value) = refl
asks_turned true (New at made target) = refl
asks_turned true (Delete at made target) = refl
asks_turned true (Copy at kind source target) = refl
asks_turned true (Uncopy at kind source target) = refl
asks_turned true (Call at back receiver method args) = refl
asks_turned true (Skip at) = refl
