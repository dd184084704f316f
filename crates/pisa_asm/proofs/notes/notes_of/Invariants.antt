use Rattle.std.proofs.Common.{◌≡◌, ◌≤◌, ◌+◌, length}
use Rattle.std.specs.Prelude.{IsTrue}
use Rattle.pisa_isa.specs.Notes.{no_notes, fits}
use Rattle.pisa_asm.specs.Lines.{lines_of}
use Rattle.pisa_asm.specs.Passes.{noted_lines}
use Rattle.pisa_asm.proofs.notes.notes_of.Given as goal

-- what is left decides
abbrev pub invariant-loop-rest : goal.invariant-loop-rest
invariant-loop-rest l = record {
  few : l.line + length l.rest ≤ 1 + length l.text;
  fit : IsTrue (fits l.image l.notes);
  left : noted_lines l.line l.image l.notes (lines_of l.rest) ≡ noted_lines 1 l.image no_notes (lines_of l.text);
}

abbrev pub decreases-loop-rest : goal.decreases-loop-rest
decreases-loop-rest l = length l.rest
