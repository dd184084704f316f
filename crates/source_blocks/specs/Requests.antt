-- Requests to the heap that are undone, if a run is reversed.
use Rattle.std.specs.Prelude.{Bool, true, false}
use Rattle.source_steps.specs.rpp_tree.Tree.{Statement, New, Delete}
use Rattle.source_steps.specs.roopl_semantics.Run.{Run, give}
use Rattle.source_steps.specs.roopl_semantics.Store.{State}
use Rattle.source_steps.specs.roopl_semantics.Execution.{Setting}
use Rattle.source_steps.specs.meaning_machine.Reversed.{undeleted, unmade}

-- whether a statement asks the heap for a block, or gives one back
abbrev pub is_request : Statement → Bool
is_request (New at made target) = true
is_request (Delete at made target) = true
is_request _ = false

-- what such a statement does if the run is reversed
abbrev pub taken_back : Setting → Statement → State → Run State
taken_back setting (New at made target) st = undeleted setting made target st
taken_back setting (Delete at made target) st = unmade setting target st
taken_back setting _ st = give st
