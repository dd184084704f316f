-- What a run has cost up to a position, and its heap there.
use Rattle.std.specs.Prelude.{◌≡◌, ℕ, List, ◌++◌, codes}
use Rattle.std.specs.Fmt.{decimal}
use Rattle.source_debugger.specs.rpp_words.Texts.{line_end}
use Rattle.source_debugger.specs.rpp_words.declared.input.FieldWord.{FieldWord}
use Rattle.source_debugger.specs.rpp_words.declared.input.Limits.{Limits}
use Rattle.source_debugger.specs.rpp_tree.Tree.{Source}
use Rattle.source_debugger.specs.roopl_semantics.Report.{Text}
use Rattle.source_debugger.specs.meaning_machine.Machine.{Config}
use Rattle.source_debugger.specs.source_execution.Standing.{config_at}
use Rattle.source_debugger.specs.Stacks.{IsThere}
use Rattle.live_accounts.specs.declared.arriving.Arrived.{Arrived}
use Rattle.live_accounts.specs.Free.{heap_lines}

-- a run is at a position, and has cost so much
pub record HasArrived (program : Source) (limits : Limits) (input : List FieldWord)
    (position : ℕ) (it : Arrived) : Type 0 where
  pub there : IsThere program limits input position (config_at it.execution)
  pub cost : there.cost ≡ it.cost

-- the line of a cost
abbrev pub account_cost_line : ℕ → Text
account_cost_line cost = codes "cost " ++ (decimal cost ++ line_end)

-- that of the cost up to a position of the run of a program on an input
pub record TellsCost (program : Source) (limits : Limits) (input : List FieldWord)
    (position : ℕ) (text : Text) : Type 0 where
  pub x : Config
  pub there : IsThere program limits input position x
  pub shown : text ≡ account_cost_line there.cost

-- the lines of the heap at a position of the run of a program on an input
pub record TellsHeap (program : Source) (limits : Limits) (input : List FieldWord)
    (position : ℕ) (text : Text) : Type 0 where
  pub x : Config
  pub there : IsThere program limits input position x
  pub shown : text ≡ heap_lines limits.heap x.state.store x.state.log
