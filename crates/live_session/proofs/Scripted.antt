-- The replies to the lines of a script.
use Rattle.std.proofs.Common.{◌≡◌, ◌∙◌, refl, sym, ap, ℕ, List, [], ◌∷◌, Some, None, Ok, inl, inr}
use Rattle.std.specs.Prelude.{Option}
use Rattle.live_talks.specs.pisa_scripts.Lines.{pieces, without_returns}
use Rattle.live_talks.specs.pisa_scripts.declared.command.Command.{Command}
use Rattle.live_searches.specs.rpp_tree.Tree.{Source}
use Rattle.live_searches.specs.source_debugger.Failures.{Account}
use Rattle.live_searches.specs.source_debugger.Shown.{Told, told, told_by, and_told, behind_text}
use Rattle.live_talks.specs.debugger_scripts.Scripts.{script_of}
use Rattle.live_talks.specs.live_requests.declared.request.Request.{Request}
use Rattle.live_talks.specs.live_requests.Limited.{limit_of, limit_after}
use Rattle.live_talks.proofs.live_requests_laws.ScriptLines.{AreCommands, script_lines}
use Rattle.live_session.specs.Replies.{said_to, said_of}
use Rattle.live_talks.proofs.live_requests_laws.Unlimited.{unlimited}

behind_nothing : (o : Option Told) → behind_text [] o ≡ o
behind_nothing None = refl
behind_nothing (Some t) = refl

said_next : (o : Option Told) (f g : ℕ → Option Told) → ((j : ℕ) → f j ≡ g j) → and_told o f ≡ and_told o g
said_next None f g same = refl
said_next (Some t) f g same = ap (behind_text t.text) (same t.position)

lines_said : (program : Source) (account : Account) (commands : List Command) (lines : List (List ℕ)) (j : ℕ)
    → AreCommands commands lines → said_of program account None lines j ≡ told program account.trail commands j
lines_said program account commands [] j are = ap (λ (c : List Command). told program account.trail c j) (sym are)
lines_said program account commands (line ∷ lines) j (inl (is, are)) =
    ap (λ (r : Request). and_told (said_to program account None r line j)
    (said_of program account (limit_after (limit_of r) None) lines)) is
    ∙ behind_nothing (said_of program account None lines j) ∙ lines_said program account commands lines j are
lines_said program account commands (line ∷ lines) j (inr (command, rest, is, commands_are, are)) =
    ap (λ (r : Request). and_told (said_to program account None r line j)
    (said_of program account (limit_after (limit_of r) None) lines)) is
    ∙ ap (λ (c : Command). and_told (told_by program account.trail c j) (said_of program account None lines))
    (unlimited command)
    ∙ said_next (told_by program account.trail command j) (said_of program account None lines)
    (told program account.trail rest) (λ k. lines_said program account rest lines k are)
    ∙ ap (λ (c : List Command). told program account.trail c j) (sym commands_are)

pub script_is_session : (program : Source) (account : Account) (script : List ℕ) (commands : List Command) (j : ℕ)
    → script_of script ≡ Ok commands
    → said_of program account None (pieces 10 (without_returns script)) j ≡ told program account.trail commands j
script_is_session program account script commands j read =
    lines_said program account commands (pieces 10 (without_returns script)) j (script_lines script commands read)
