use Rattle.std.proofs.Common.{sym, ap, ◌∙◌}
use Rattle.source_steps.specs.Marks.{has_mark}
use Rattle.source_steps.specs.StateView.{names_of}
use Rattle.source_steps.proofs.Marked.{nowhere}
use Rattle.source_steps.proofs.scope.slot.Goals as goal

pub returns-clause-place : goal.returns-clause-place
returns-clause-place c =
    nowhere c.args.scope.now.marks c.args.name.now (names_of c.args.scope.now) c.requires.marked
    (sym (c.is_marked.ensures ∙ ap (has_mark c.args.scope.now.marks) c.bytes.ensures) ∙ c.if-is_marked.false)
