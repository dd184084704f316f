use Rattle.std.proofs.Common.{◌≡◌, ◌≤◌, ◌+◌, length}
use Rattle.pisa_asm.specs.Lines.{lines_of}
use Rattle.pisa_asm.specs.Passes.{surveyed, no_lines}
use Rattle.pisa_asm.proofs.survey.survey_of.Given as goal

-- what is left decides
abbrev pub invariant-loop-rest : goal.invariant-loop-rest
invariant-loop-rest l = record {
  few : l.line + length l.rest ≤ 1 + length l.text;
  left : surveyed l.line l.survey (lines_of l.rest) ≡ surveyed 1 no_lines (lines_of l.text);
}

abbrev pub decreases-loop-rest : goal.decreases-loop-rest
decreases-loop-rest l = length l.rest
