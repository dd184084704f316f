use Rattle.std.proofs.Common.{◌≡◌, ◌+◌, ◌++◌, drop, take}
use Rattle.std.specs.Prelude.{string_bytes}
use Rattle.two_way_debugger.specs.Shown.{position_after, shown, spent_in}
use Rattle.two_way_debugger.proofs.debugger.Debugger.follow.Given as goal

-- what is left leads where the whole script does, and what is printed and what is left to print are
-- the whole; the moves of the commands so far were made
abbrev pub invariant-loop-command : goal.invariant-loop-command
invariant-loop-command g l = record {
  position : position_after (drop l.command-index l.script) l.self ≡ position_after l.script l.initial.self;
  text : string_bytes l.text ++ shown (drop l.command-index l.script) l.self ≡ shown l.script l.initial.self;
  counter : l.steps + spent_in (drop l.command-index l.script) l.self
      ≡ l.initial.steps + spent_in l.script l.initial.self;
  front : l.self ≡ position_after (take l.command-index l.script) l.initial.self;
  front_counter : l.steps ≡ l.initial.steps + spent_in (take l.command-index l.script) l.initial.self;
}
