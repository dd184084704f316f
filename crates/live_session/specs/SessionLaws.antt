-- Laws of sessions.
use Rattle.std.specs.Prelude.{◌≡◌, ℕ, List, Ok, None}
use Rattle.live_talks.specs.pisa_scripts.Lines.{pieces, without_returns}
use Rattle.live_talks.specs.pisa_scripts.declared.command.Command.{Command}
use Rattle.live_searches.specs.rpp_tree.Tree.{Source}
use Rattle.live_searches.specs.source_debugger.Failures.{Account}
use Rattle.live_searches.specs.source_debugger.Shown.{told}
use Rattle.live_talks.specs.debugger_scripts.Scripts.{script_of}
use Rattle.live_session.specs.Replies.{said_of}

-- the lines of a script, one by one, with no limit: without their last lines, the replies are what
-- `trace` prints
abbrev pub ScriptIsSession : Type 0
ScriptIsSession =
    (program : Source) (account : Account) (script : List ℕ) (commands : List Command) (j : ℕ)
    → script_of script ≡ Ok commands
    → said_of program account None (pieces 10 (without_returns script)) j
    ≡ told program account.trail commands j
