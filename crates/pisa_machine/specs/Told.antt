-- What probes observe of a run.
use Rattle.std.specs.Prelude.{◌≡◌, ◌<◌, ◌+◌, ℕ, ℤ, pos, negsuc, List, [], ◌∷◌, ◌++◌, map}
use Rattle.pisa_isa.specs.declared.cell.Cell.{Cell}
use Rattle.pisa_isa.specs.Machine.{State}
use Rattle.pisa_isa.specs.Runs.{run, visited, made_in}
use Rattle.rpp_probes.specs.declared.probe.StepAt.{StepAt}
use Rattle.rpp_probes.specs.Tally.{Watch, left_after, lines_after, IsCutShort}
use Rattle.pisa_machine.specs.Position.{Position}

-- the number of a code address; only addresses in the code are observed
abbrev pub code_address : ℤ → ℕ
code_address (pos n) = n
code_address (negsuc n) = 0

-- a step from a state
abbrev pub step_at : State → StepAt
step_at m = record { place = code_address m.pc; back = m.back }

-- the counted steps of a run of at most n steps, in order
abbrev pub counted_steps : List Cell → ℕ → State → List StepAt
counted_steps code n m = map step_at (visited code n m)

-- Memory ran out during a counted step. The machine is after that step. Each probe that is still in
-- the list observed all steps before it, and a prefix of the list observed that step. Each line
-- that was added stays.
pub record BreaksOff (bound : ℕ) (old new : Position) (count counted : ℕ)
    (watches left : List Watch) (before after : List (List ℕ)) : Type 0 where
  pub whole : ℕ
  pub last : State
  pub within : whole < bound
  pub visits : visited old.image.code (whole + 1) old.state
      ≡ visited old.image.code whole old.state ++ last ∷ []
  pub stands : new.state ≡ (run old.image.code (whole + 1) old.state).last
  pub made : new.made ≡ old.made + made_in (run old.image.code (whole + 1) old.state)
  pub counter : counted ≡ count + (whole + 1)
  pub lines : List (List ℕ)
  pub lines_before : lines ≡ before ++ lines_after (counted_steps old.image.code whole old.state)
      watches
  pub cut_short : IsCutShort (step_at last)
      (left_after (counted_steps old.image.code whole old.state) watches) left lines after
