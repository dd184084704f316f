-- What the checks of an inverted statement look at is what they looked at.
use Rattle.std.proofs.Common.{◌≡◌, refl, Bool, true, false}
use Rattle.source_blocks.specs.rpp_tree.Tree.{Source, Statement, Update, Swap, If, From, Construct, Local, New, Delete, Copy, Uncopy}
use Rattle.source_blocks.specs.rpp_tree.Tree.{Call, Skip}
use Rattle.source_blocks.specs.inverse_rules.Inverse.{inverse_statement}
use Rattle.source_blocks.specs.source_steps.Ends.{turned}
use Rattle.source_blocks.specs.roopl_semantics.Store.{State}
use Rattle.source_checks.specs.Checks.{subject}

subject_undone : (program : Source) (st : State) (s : Statement)
    → subject program st s ≡ subject program st (inverse_statement s)
subject_undone program st (Update at op target value) = refl
subject_undone program st (Swap at left right) = refl
subject_undone program st (If at test taken other after) = refl
subject_undone program st (From at entry first again exit) = refl
subject_undone program st (Construct at class name body end) = refl
subject_undone program st (Local at var value body end_var end_value) = refl
subject_undone program st (New at made target) = refl
subject_undone program st (Delete at made target) = refl
subject_undone program st (Copy at kind source target) = refl
subject_undone program st (Uncopy at kind source target) = refl
subject_undone program st (Call at back receiver method args) = refl
subject_undone program st (Skip at) = refl

pub subject_turned : (program : Source) (st : State) (back : Bool) (s : Statement)
    → subject program st s ≡ subject program st (turned back s)
subject_turned program st true s = subject_undone program st s
subject_turned program st false s = refl
