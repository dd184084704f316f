use Rattle.std.proofs.Common.{◌∙◌, ◌++◌, ap, List, ℕ}
use Rattle.trace_commands.proofs.Followed.{followed}
use Rattle.trace_commands.proofs.planning.follow.Goals as goal

pub returns : goal.returns
returns c =
    followed c.args.checked c.args.limits c.args.input.now.words.items c.args.commands.now _ _
    c.in_ok-follow.ensures.told.0 _ c.in_ok-debugger.ensures c.in_ok-follow.ensures.told.1
    (c.in_ok-follow.ensures.told.2 ∙ ap (λ (s : List ℕ). s ++ c.in_ok-follow.ensures.told.0) c.new-text.ensures.bytes)
