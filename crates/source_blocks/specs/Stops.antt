-- Where a run may run out of memory.
use Rattle.std.specs.Prelude.{◌≢◌, []}
use Rattle.source_steps.specs.rpp_tree.Tree.{Lvalue, Whole, Item, Statement, Update, Swap, If, From, Construct}
use Rattle.source_steps.specs.rpp_tree.Tree.{Local, New, Delete, Copy, Uncopy, Call, Skip}
use Rattle.source_steps.specs.declared.stop.Stop.{Stop}
use Rattle.source_steps.specs.Metered.{IsOwn, IsOwnOrFull}

-- an exchange with a variable without a name, which holds an element during a call on it, makes
-- that name
abbrev pub MayStopSwap : Lvalue → Stop → Type 0
MayStopSwap (Whole name) why = name.text ≢ [] → IsOwn why
MayStopSwap (Item name index) why = IsOwn why

-- an update, an exchange, an `uncopy` and `skip` need no memory, and a `copy` only a higher count;
-- any other statement opens a block, or asks the heap
abbrev pub MayStop : Statement → Stop → Type 0
MayStop (Update at op target value) why = IsOwn why
MayStop (Swap at left right) why = MayStopSwap left why
MayStop (If at test taken other after) why = Unit {0}
MayStop (From at entry first again exit) why = Unit {0}
MayStop (Construct at class name body end) why = Unit {0}
MayStop (Local at var value body end_var end_value) why = Unit {0}
MayStop (New at made target) why = Unit {0}
MayStop (Delete at made target) why = Unit {0}
MayStop (Copy at kind source target) why = IsOwnOrFull why
MayStop (Uncopy at kind source target) why = IsOwn why
MayStop (Call at back receiver method args) why = Unit {0}
MayStop (Skip at) why = IsOwn why
