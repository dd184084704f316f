use Rattle.std.proofs.Common.{◌≡◌, length}
use Rattle.pisa_asm.specs.Lines.{line_words}
use Rattle.pisa_asm.specs.LabelNames.{label_names}
use Rattle.pisa_asm.specs.Passes.{labels_at}
use Rattle.pisa_asm.proofs.label.note_labels.Given as goal

-- what is left decides
abbrev pub invariant-loop-word : goal.invariant-loop-word
invariant-loop-word l =
    labels_at l.line l.place l.labels.entries (label_names (line_words l.rest))
    ≡ labels_at l.line l.place l.initial.labels.entries (label_names (line_words l.content))

abbrev pub decreases-loop-word : goal.decreases-loop-word
decreases-loop-word l = length l.rest
