use Rattle.std.proofs.Common.{◌≡◌, drop, None}
use Rattle.image_commands.specs.RunTexts.{narrowest}
use Rattle.image_commands.proofs.run_texts.narrowest.Given as goal

-- what was found and the marks that are left decide
abbrev pub invariant-loop-mark : goal.invariant-loop-mark
invariant-loop-mark l = narrowest l.fn.pc l.best (drop l.mark-index l.fn.marks) ≡ narrowest l.fn.pc None l.fn.marks
