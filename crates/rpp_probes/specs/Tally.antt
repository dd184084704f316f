-- What a probe is, and what becomes of probes that observe the counted steps of a run.
use Rattle.std.specs.Prelude.{◌≡◌, ◌≤◌, ℕ, Bool, false, not, ◌||◌, List, [], ◌∷◌, ◌++◌, length, map}
use Rattle.std.specs.Prelude.{filter, IsTrue, if◌then◌else◌}
use Rattle.std.specs.List.{flat_map, All}
use Rattle.rpp_probes.specs.declared.probe.StepAt.{StepAt}

-- a tally, and what never changes: the rule from a tally and a step to the next tally, the end test
-- of a tally, and its line
pub record Watch : Type 0 where
  pub tally : List ℕ
  pub rule : List ℕ → StepAt → List ℕ
  pub is_end : List ℕ → Bool
  pub shown : List ℕ → List ℕ

-- the end test holds for the tally
abbrev pub has_ended : Watch → Bool
has_ended w = w.is_end w.tally

-- the line of the tally
abbrev pub watch_line : Watch → List ℕ
watch_line w = w.shown w.tally

-- after it observes a step
abbrev pub step_observed : StepAt → Watch → Watch
step_observed step w = record w { tally = w.rule w.tally step }

-- after it observes the steps of a run: the fold of the rule over them, up to and with the first
-- step after which the end test holds
abbrev pub told_all : List StepAt → Watch → Watch
told_all [] w = w
told_all (step ∷ steps) w = if has_ended (step_observed step w) then step_observed step w else told_all steps
    (step_observed step w)

-- whether there is such a step
abbrev pub is_ended_in : List StepAt → Watch → Bool
is_ended_in [] w = false
is_ended_in (step ∷ steps) w = has_ended (step_observed step w) || is_ended_in steps (step_observed step w)

-- so many steps do not end it, whatever they are
abbrev pub IsSureFor : ℕ → Watch → Type 0
IsSureFor count w = (steps : List StepAt) → length steps ≤ count → is_ended_in steps w ≡ false

-- nor any probe of a list
abbrev pub AreSureFor : ℕ → List Watch → Type 0
AreSureFor count ws = All (IsSureFor count) ws

-- these steps end no probe of a list
abbrev pub EndNone : List StepAt → List Watch → Type 0
EndNone steps ws = All (λ w. is_ended_in steps w ≡ false) ws

-- the probes of a list that no step of a run has ended, in their order
abbrev pub left_after : List StepAt → List Watch → List Watch
left_after steps ws = map (told_all steps) (filter (λ w. not (is_ended_in steps w)) ws)

-- the probes that go on after a step
abbrev pub going : StepAt → List Watch → List Watch
going step ws = filter (λ w. not (has_ended w)) (map (step_observed step) ws)

-- the lines of those that end with it
abbrev pub lines_at : StepAt → List Watch → List (List ℕ)
lines_at step ws = map watch_line (filter has_ended (map (step_observed step) ws))

-- the lines of the probes that the steps of a run end, in the order of their ends
abbrev pub lines_after : List StepAt → List Watch → List (List ℕ)
lines_after [] ws = []
lines_after (step ∷ steps) ws = lines_at step ws ++ lines_after steps (going step ws)

-- Memory ran out for the line of a probe that ended with a step. Those before it observed the step,
-- and the lines of those that ended are kept; those after it did not observe it.
pub record IsCutShort (step : StepAt) (old new : List Watch) (before after : List (List ℕ)) : Type 0
  where
    pub front : List Watch
    pub ended : Watch
    pub behind : List Watch
    pub parts : old ≡ front ++ ended ∷ behind
    pub ends : IsTrue (has_ended (step_observed step ended))
    pub left : new ≡ going step front ++ step_observed step ended ∷ behind
    pub lines : after ≡ before ++ lines_at step front

-- one probe of a list observes a step, and goes on or not
pub record TellsAt (step : StepAt) (at : ℕ) (old new : List Watch) (goes : Bool) : Type 0 where
  pub front : List Watch
  pub one : Watch
  pub behind : List Watch
  pub parts : old ≡ front ++ one ∷ behind
  pub count : length front ≡ at
  pub left : new ≡ front ++ step_observed step one ∷ behind
  pub goes_on : goes ≡ not (has_ended (step_observed step one))

-- one probe of a list is dropped, and its line kept
pub record DropsAt (at : ℕ) (old new : List Watch) (before after : List (List ℕ)) : Type 0 where
  pub front : List Watch
  pub one : Watch
  pub behind : List Watch
  pub parts : old ≡ front ++ one ∷ behind
  pub count : length front ≡ at
  pub left : new ≡ front ++ behind
  pub line : after ≡ before ++ watch_line one ∷ []

-- lines as they are printed, each with a line feed
abbrev pub lines_shown : List (List ℕ) → List ℕ
lines_shown lines = flat_map (λ line. line ++ 10 ∷ []) lines
