-- The replies to the lines of a script.
use Rattle.std.proofs.Common.{◌≡◌, ◌∙◌, sym, ap, ℕ, List, [], ◌∷◌, ◌++◌, None, Ok, inl, inr}
use Rattle.live_talks.specs.pisa_scripts.Lines.{pieces, without_returns}
use Rattle.live_talks.specs.pisa_scripts.declared.command.Command.{Command}
use Rattle.image_searches.specs.pisa_machine.Position.{Position}
use Rattle.live_talks.specs.debugger_scripts.Scripts.{script_of}
use Rattle.image_searches.specs.two_way_debugger.Shown.{shown, walk_of, text_of}
use Rattle.live_talks.specs.live_requests.declared.request.Request.{Request}
use Rattle.live_talks.proofs.live_requests_laws.ScriptLines.{AreCommands, script_lines}
use Rattle.live_images.specs.Replies.{answered, image_said_of}
use Rattle.live_talks.proofs.live_requests_laws.Unlimited.{unlimited}

-- what a line and those after it say, by its request
abbrev by_request : (line : List ℕ) → (lines : List (List ℕ)) → Position → Request → List ℕ
by_request line lines p r = (answered None r line p).text ++ image_said_of lines (answered None r line p).position

lines_said : (commands : List Command) (lines : List (List ℕ)) (p : Position) → AreCommands commands lines
    → image_said_of lines p ≡ shown commands p
lines_said commands [] p are = ap (λ (c : List Command). shown c p) (sym are)
lines_said commands (line ∷ lines) p (inl (is, are)) = ap (by_request line lines p) is ∙ lines_said commands lines p are
lines_said commands (line ∷ lines) p (inr (command, rest, is, commands_are, are)) =
    ap (by_request line lines p) is
    ∙ ap (λ (c : Command). text_of c p ++ image_said_of lines (walk_of c p).position) (unlimited command)
    ∙ ap (λ (t : List ℕ). text_of command p ++ t) (lines_said rest lines (walk_of command p).position are)
    ∙ ap (λ (c : List Command). shown c p) (sym commands_are)

pub script_is_session_along : (script : List ℕ) (commands : List Command) (p : Position)
    → script_of script ≡ Ok commands → image_said_of (pieces 10 (without_returns script)) p ≡ shown commands p
script_is_session_along script commands p read =
    lines_said commands (pieces 10 (without_returns script)) p (script_lines script commands read)
