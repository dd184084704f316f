-- A law of sessions along the run of an image.
use Rattle.std.specs.Prelude.{◌≡◌, ℕ, List, Ok}
use Rattle.live_talks.specs.pisa_scripts.Lines.{pieces, without_returns}
use Rattle.live_talks.specs.pisa_scripts.declared.command.Command.{Command}
use Rattle.image_searches.specs.pisa_machine.Position.{Position}
use Rattle.live_talks.specs.debugger_scripts.Scripts.{script_of}
use Rattle.image_searches.specs.two_way_debugger.Shown.{shown}
use Rattle.live_images.specs.Replies.{image_said_of}

-- the lines of a script, one by one: without their last lines, the replies are what `debug` prints
abbrev pub ScriptIsSessionAlong : Type 0
ScriptIsSessionAlong =
    (script : List ℕ) (commands : List Command) (p : Position) → script_of script ≡ Ok commands
    → image_said_of (pieces 10 (without_returns script)) p ≡ shown commands p
