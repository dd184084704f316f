-- The probes that are left, and the lines of those that ended, step by step.
use Rattle.std.proofs.Common.{◌≡◌, ◌∙◌, sym, ap, refl, Bool, true, false, List, [], ◌∷◌, ◌++◌, append_assoc}
use Rattle.std.proofs.lemmas.List.{append-nil}
use Rattle.rpp_probes.specs.declared.probe.StepAt.{StepAt}
use Rattle.rpp_probes.specs.Tally.{Watch, step_observed, told_all, has_ended, is_ended_in, going, lines_at, left_after}
use Rattle.rpp_probes.specs.Tally.{lines_after}

pub left_none : (ws : List Watch) → left_after [] ws ≡ ws
left_none [] = refl
left_none (w ∷ ws) = ap (λ l. w ∷ l) (left_none ws)

-- a step before others
going_first : (step : StepAt) (steps : List StepAt) (w : Watch) (ws : List Watch) (ended later : Bool)
    → has_ended (step_observed step w) ≡ ended → is_ended_in steps (step_observed step w) ≡ later
    → left_after steps (going step ws) ≡ left_after (step ∷ steps) ws
    → left_after steps (going step (w ∷ ws)) ≡ left_after (step ∷ steps) (w ∷ ws)
going_first step steps w ws true later e f rest = rw e rest
going_first step steps w ws false true e f rest = rw (e, f) rest
going_first step steps w ws false false e f rest = rw (e, f)
    (rw e (ap (λ l. told_all steps (step_observed step w) ∷ l) rest))

pub going_left : (step : StepAt) (steps : List StepAt) (ws : List Watch)
    → left_after steps (going step ws) ≡ left_after (step ∷ steps) ws
going_left step steps [] = refl
going_left step steps (w ∷ ws) = going_first step steps w ws (has_ended (step_observed step w))
    (is_ended_in steps (step_observed step w))
    refl refl (going_left step steps ws)

pub left_one : (step : StepAt) (ws : List Watch) → left_after (step ∷ []) ws ≡ going step ws
left_one step ws = sym (going_left step [] ws) ∙ left_none (going step ws)

pub left_more : (steps : List StepAt) (step : StepAt) (ws : List Watch)
    → left_after (steps ++ step ∷ []) ws ≡ going step (left_after steps ws)
left_more [] step ws = left_one step ws ∙ ap (going step) (sym (left_none ws))
left_more (first ∷ steps) step ws =
    sym (going_left first (steps ++ step ∷ []) ws) ∙ left_more steps step (going first ws)
    ∙ ap (going step) (going_left first steps ws)

pub lines_one : (step : StepAt) (ws : List Watch) → lines_after (step ∷ []) ws ≡ lines_at step ws
lines_one step ws = append-nil (lines_at step ws)

pub lines_more : (steps : List StepAt) (step : StepAt) (ws : List Watch)
    → lines_after (steps ++ step ∷ []) ws ≡ lines_after steps ws ++ lines_at step (left_after steps ws)
lines_more [] step ws = lines_one step ws ∙ ap (lines_at step) (sym (left_none ws))
lines_more (first ∷ steps) step ws =
    ap (λ l. lines_at first ws ++ l) (lines_more steps step (going first ws)
    ∙ ap (λ l. lines_after steps (going first ws) ++ lines_at step l) (going_left first steps ws))
    ∙ sym (append_assoc (lines_at first ws) (lines_after steps (going first ws))
    (lines_at step (left_after (first ∷ steps) ws)))

-- ---- steps after others

pub left_append : (first more : List StepAt) (ws : List Watch)
    → left_after (first ++ more) ws ≡ left_after more (left_after first ws)
left_append [] more ws = ap (left_after more) (sym (left_none ws))
left_append (step ∷ first) more ws =
    sym (going_left step (first ++ more) ws) ∙ left_append first more (going step ws)
    ∙ ap (left_after more) (going_left step first ws)

pub lines_append : (first more : List StepAt) (ws : List Watch)
    → lines_after (first ++ more) ws ≡ lines_after first ws ++ lines_after more (left_after first ws)
lines_append [] more ws = ap (lines_after more) (sym (left_none ws))
lines_append (step ∷ first) more ws =
    ap (λ l. lines_at step ws ++ l) (lines_append first more (going step ws)
    ∙ ap (λ l. lines_after first (going step ws) ++ lines_after more l) (going_left step first ws))
    ∙ sym (append_assoc (lines_at step ws) (lines_after first (going step ws))
    (lines_after more (left_after (step ∷ first) ws)))
