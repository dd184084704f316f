use Rattle.std.proofs.Common.{◌≡◌, length}
use Rattle.pisa_asm.specs.Lines.{line_words}
use Rattle.pisa_asm.specs.LabelNames.{after_labels}
use Rattle.pisa_asm.proofs.label.after_labels.Given as goal

-- what is left decides
abbrev pub invariant-loop-word : goal.invariant-loop-word
invariant-loop-word l = after_labels (line_words l.rest) ≡ after_labels (line_words l.line)

abbrev pub decreases-loop-word : goal.decreases-loop-word
decreases-loop-word l = length l.rest
