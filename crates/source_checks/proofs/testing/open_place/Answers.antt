use Rattle.std.proofs.Common.{◌-◌, ◌∙◌, List, length, ap}
use Rattle.std.specs.Prelude.{slice_get}
use Rattle.source_blocks.specs.declared.frames.Frame.{Frame}
use Rattle.source_checks.proofs.AtEnds.{past_place}
use Rattle.source_checks.proofs.testing.open_place.Goals as goal

pub returns-in-None-line_at : goal.returns-in-None-line_at
returns-in-None-line_at c =
    past_place c.args.frames.now.items c.in-Some.frame.now
    (c.in-Some.ensures.value ∙ ap (λ (fs : List Frame). slice_get fs (length fs - 1)) c.deref.ensures.value)
    c.in-None-line_at.ensures.past
