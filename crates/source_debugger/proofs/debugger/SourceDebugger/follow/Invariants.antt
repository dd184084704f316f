use Rattle.std.proofs.Common.{take}
use Rattle.std.specs.Prelude.{string_bytes}
use Rattle.source_debugger.proofs.Following.{IsFollowed}
use Rattle.source_debugger.proofs.debugger.SourceDebugger.follow.Given as goal

-- the commands so far have been carried out
abbrev pub invariant-loop-command : goal.invariant-loop-command
invariant-loop-command l = IsFollowed l.fn.self (take l.command-index l.script) l.self (string_bytes l.text)
