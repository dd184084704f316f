-- A plan of `explain` writes nothing.
use Rattle.std.proofs.Common.{◌≡◌, ℕ, List, None, Some, Ok, Err, inl, refl}
use Rattle.std.specs.declared.option.Option.{Option}
use Rattle.std.specs.Prelude.{Result}
use Rattle.run_settings.specs.rpp_words.declared.input.FieldWord.{FieldWord}
use Rattle.run_settings.specs.rpp_words.declared.input.Limits.{Limits}
use Rattle.run_settings.specs.rpp_tree.Tree.{Source}
use Rattle.run_settings.specs.command_plan.declared.plan.Sizes.{Sizes}
use Rattle.run_settings.specs.rpp_ports.Ports.{Texts}
use Rattle.run_settings.specs.pisa_loader.Limiting.{limits_refusal}
use Rattle.run_settings.specs.pisa_loader.declared.error.LoadError.{LoadError}
use Rattle.store_report.specs.roopl_semantics.Run.{Run, Done as OverWith, Fault, More}
use Rattle.store_report.specs.roopl_semantics.Store.{State}
use Rattle.store_report.specs.roopl_semantics.Source.{source}
use Rattle.source_meaning.specs.declared.whole.TheConstants.{MOST_OPEN}
use Rattle.run_settings.specs.command_plan.Plans.{Planned, WritesOnly}
use Rattle.run_settings.proofs.command_plan_laws.Writes.{along}
use Rattle.run_settings.specs.Inputs.{given_input}
use Rattle.run_settings.proofs.RefusedRuns.{judged_writes}
use Rattle.explain_commands.specs.Explained.{explained, IsExplainedInput, IsExplainedWithin, IsExplainPlan, Explains}

explained_writes : (program : Source) (run : Run State) (p : Planned) → p ≡ explained program run → WritesOnly p None
explained_writes program (OverWith end cost) p h = along p _ None h (inl refl)
explained_writes program (Fault code cost) p h = along p _ None h (inl refl)
explained_writes program More p h = along p _ None h (inl refl)

explained_input_writes : (input : Result (List FieldWord) LoadError) (program : Source) (limits : Limits) (fuel : ℕ)
    (p : Planned) → IsExplainedInput input program limits fuel p → WritesOnly p None
explained_input_writes (Err e) program limits fuel p h = along p _ None h (inl refl)
explained_input_writes (Ok input) program limits fuel p h =
    explained_writes program (source program limits input fuel) p h

explained_within_writes : (refusal : Option LoadError) (given : List ℕ) (program : Source) (limits : Limits) (fuel : ℕ)
    (p : Planned) → IsExplainedWithin refusal given program limits fuel p → WritesOnly p None
explained_within_writes (Some e) given program limits fuel p h = along p _ None h (inl refl)
explained_within_writes None given program limits fuel p h =
    explained_input_writes (given_input program given) program limits fuel p h

explain_writes : (text given : List ℕ) (sizes : Sizes) (p : Planned) → IsExplainPlan text given sizes p
    → WritesOnly p None
explain_writes text given sizes p g =
    judged_writes g.judgement _ None p (λ program q h. explained_within_writes
    (limits_refusal sizes.room.heap sizes.room.deep MOST_OPEN)
    given program (record { heap = sizes.room.heap; deep = sizes.room.deep }) sizes.bound q h) g.plan

pub explains_writes : (file : List ℕ) (input : Option (List ℕ)) (sizes : Sizes) (told : Option Texts) (p : Planned)
    → Explains file input sizes told p → WritesOnly p None
explains_writes file input sizes told p h =
    explain_writes h.text h.holds.text sizes p h.holds.holds
