-- A plan that reports a refusal of a text writes nothing.
use Rattle.std.proofs.Common.{ℕ, List, None, Some, Ok, Err, inl, refl}
use Rattle.std.specs.declared.option.Option.{Option}
use Rattle.std.specs.Prelude.{Result}
use Rattle.roopl_judge.specs.rpp_words.declared.input.FieldWord.{FieldWord}
use Rattle.roopl_judge.specs.rpp_tree.Tree.{Source}
use Rattle.roopl_judge.specs.class_rules.Refusal.{Refusal}
use Rattle.command_plan.specs.declared.plan.Room.{Room}
use Rattle.command_plan.specs.pisa_loader.declared.error.LoadError.{LoadError}
use Rattle.command_plan.specs.Plans.{Planned, WritesOnly}
use Rattle.command_plan.proofs.Writes.{along}
use Rattle.run_settings.specs.Inputs.{given_input}
use Rattle.run_settings.specs.Runnable.{OfProgram, RefusesInput, RefusesSizes, RefusesRun}

-- what holds for the plans that P allows holds for all plans of a text: a refusal writes nothing
pub judged_writes : (judgement : Result Source Refusal) (P : Source → Planned → Type 0) (name : Option (List ℕ))
    (p : Planned) → ((program : Source) (q : Planned) → P program q → WritesOnly q name) → OfProgram P judgement p
    → WritesOnly p name
judged_writes (Err refusal) P name p f h = along p _ name h (inl refl)
judged_writes (Ok program) P name p f h = f program p h

input_refused_writes : (input : Result (List FieldWord) LoadError) (p : Planned) → RefusesInput input p
    → WritesOnly p None
input_refused_writes (Err e) p h = along p _ None h (inl refl)
input_refused_writes (Ok input) p h = absurd h

sizes_refused_writes : (refusal : Option LoadError) (given : List ℕ) (program : Source) (p : Planned)
    → RefusesSizes refusal given program p → WritesOnly p None
sizes_refused_writes (Some e) given program p h = along p _ None h (inl refl)
sizes_refused_writes None given program p h = input_refused_writes (given_input program given) p h

pub refused_writes : (text given : List ℕ) (room : Room) (p : Planned) → RefusesRun text given room p
    → WritesOnly p None
refused_writes text given room p g =
    judged_writes g.judgement _ None p (λ program q h. sizes_refused_writes _ given program q h) g.plan
