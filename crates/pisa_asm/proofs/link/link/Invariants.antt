use Rattle.std.proofs.Common.{◌≡◌, ◌≤◌, ◌<◌, ◌+◌, [], length}
use Rattle.pisa_asm.specs.Lines.{lines_of}
use Rattle.pisa_asm.specs.Passes.{linked_cells}
use Rattle.pisa_asm.proofs.link.link.Given as goal

-- what is left decides
abbrev pub invariant-loop-rest : goal.invariant-loop-rest
invariant-loop-rest l = record {
  few : l.line + length l.rest ≤ 1 + length l.text;
  short : length l.code.items < l.line;
  left : linked_cells l.line l.survey.labels l.code.items (lines_of l.rest)
      ≡ linked_cells 1 l.survey.labels [] (lines_of l.text);
}

abbrev pub decreases-loop-rest : goal.decreases-loop-rest
decreases-loop-rest l = length l.rest
