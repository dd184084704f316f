-- The tallies of the three probes.
use Rattle.std.specs.Prelude.{◌≡◌, ℕ, ◌+◌, ◌-◌, ◌^◌, ◌==◌, nat_lt, min, max, Bool, false, List, []}
use Rattle.std.specs.Prelude.{◌∷◌, ◌++◌, length, sum, slice_set, codes, if◌then◌else◌}
use Rattle.std.specs.Fmt.{decimal}
use Rattle.rpp_probes.specs.declared.probe.StepAt.{StepAt}
use Rattle.rpp_probes.specs.declared.coverage.TheConstants.{MOST_PLACES}
use Rattle.rpp_probes.specs.Tally.{Watch}

-- a count one higher, or at its last value
abbrev pub risen : ℕ → ℕ
risen count = min (count + 1) (2 ^ 64 - 1)

abbrev pub never : List ℕ → Bool
never tally = false

-- the forward steps, and the backward ones
abbrev pub steps_rule : List ℕ → StepAt → List ℕ
steps_rule (forward ∷ back ∷ rest) step =
    if step.back then forward ∷ risen back ∷ [] else risen forward ∷ back ∷ []
steps_rule tally step = tally

abbrev pub tally_line : List ℕ → List ℕ
tally_line (forward ∷ back ∷ rest) =
    codes "forward " ++ (decimal forward ++ (codes " back " ++ decimal back))
tally_line tally = []

abbrev pub step_tally : (forward back : ℕ) → Watch
step_tally forward back = record {
  tally = forward ∷ back ∷ [];
  rule = steps_rule;
  is_end = never;
  shown = tally_line;
}

-- the greatest code address with one more
abbrev pub deepened : ℕ → List ℕ → List ℕ
deepened place [] = place ∷ []
deepened place (deepest ∷ rest) = max deepest place ∷ []

-- the greatest code address, if there was a step
abbrev pub deepest_rule : List ℕ → StepAt → List ℕ
deepest_rule tally step = deepened step.place tally

abbrev pub deepest_line : List ℕ → List ℕ
deepest_line [] = codes "deepest none"
deepest_line (deepest ∷ rest) = codes "deepest " ++ decimal deepest

abbrev pub deepest_place : List ℕ → Watch
deepest_place places = record {
  tally = places;
  rule = deepest_rule;
  is_end = never;
  shown = deepest_line;
}

-- the marks with a code address marked, if the table has it
abbrev pub marked : ℕ → List ℕ → List ℕ
marked place marks = if nat_lt place MOST_PLACES then slice_set marks place 1 else marks

-- the marks with the code addresses of steps marked
abbrev pub marked_all : List StepAt → List ℕ → List ℕ
marked_all [] marks = marks
marked_all (step ∷ steps) marks = marked_all steps (marked step.place marks)

-- the limit, how many steps were observed, and a mark for each code address of the table
abbrev pub coverage_rule : List ℕ → StepAt → List ℕ
coverage_rule (limit ∷ steps ∷ marks) step = limit ∷ risen steps ∷ marked step.place marks
coverage_rule tally step = tally

-- the step was observed with which there are as many as the limit
abbrev pub coverage_end : List ℕ → Bool
coverage_end (limit ∷ steps ∷ marks) = steps == limit
coverage_end tally = false

-- how many code addresses are marked
abbrev pub coverage_line : List ℕ → List ℕ
coverage_line (limit ∷ steps ∷ marks) = codes "places " ++ decimal (sum marks)
coverage_line tally = []

abbrev pub coverage : (limit steps : ℕ) (marks : List ℕ) → Watch
coverage limit steps marks = record {
  tally = limit ∷ steps ∷ marks;
  rule = coverage_rule;
  is_end = coverage_end;
  shown = coverage_line;
}

-- no step was observed, and no code address of the table is marked
pub record CoversNothing (limit : ℕ) (w : Watch) : Type 0 where
  pub marks : List ℕ
  pub is : w ≡ coverage limit 0 marks
  pub count : length marks ≡ MOST_PLACES
  pub unmarked : sum marks ≡ 0
