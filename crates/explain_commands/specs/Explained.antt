-- The plans of `explain`.
use Rattle.std.specs.Prelude.{◌≡◌, ℕ, List, ◌++◌, None, Some, Result, Ok, Err, codes}
use Rattle.std.specs.declared.option.Option.{Option}
use Rattle.std.specs.Fmt.{decimal}
use Rattle.run_settings.specs.rpp_words.Texts.{line_end}
use Rattle.run_settings.specs.rpp_words.declared.input.FieldWord.{FieldWord}
use Rattle.run_settings.specs.rpp_words.declared.input.Limits.{Limits}
use Rattle.run_settings.specs.rpp_tree.declared.limits.TheConstants.{MOST_BYTES}
use Rattle.run_settings.specs.rpp_tree.Tree.{Source}
use Rattle.run_settings.specs.command_plan.declared.plan.Sizes.{Sizes}
use Rattle.run_settings.specs.rpp_ports.Ports.{Texts}
use Rattle.run_settings.specs.pisa_loader.Limiting.{limits_refusal}
use Rattle.run_settings.specs.pisa_loader.declared.error.LoadError.{LoadError}
use Rattle.store_report.specs.roopl_semantics.Run.{Run, Done as OverWith, Fault, More}
use Rattle.store_report.specs.roopl_semantics.Store.{State}
use Rattle.store_report.specs.roopl_semantics.Source.{source}
use Rattle.store_report.specs.roopl_semantics.Report.{report}
use Rattle.source_meaning.specs.declared.outcome.Outcome.{Outcome}
use Rattle.source_meaning.specs.declared.outcome.Outcome.TheVariants as outcome
use Rattle.source_meaning.specs.declared.whole.TheConstants.{MOST_OPEN}
use Rattle.run_settings.specs.command_ends.declared.verdict.Verdict.TheVariants.{Done, Trapped, Bound, InputRefused}
use Rattle.run_settings.specs.command_plan.Plans.{Planned, prints, WithText, WithInput}
use Rattle.run_settings.specs.command_plan.Texts.{load_line}
use Rattle.run_settings.specs.pisa_scripts.Stops.{fault_line}
use Rattle.run_settings.specs.Inputs.{given_input}
use Rattle.run_settings.specs.Runnable.{IsJudgedPlan}

-- the line on what a run costs
abbrev pub cost_line : ℕ → List ℕ
cost_line cost = codes "cost " ++ decimal cost ++ line_end

-- what is printed of what the source does: the report of its store, or its fault, with the cost, or
-- that the cost passes the fuel
abbrev pub explained : Source → Run State → Planned
explained program (OverWith end cost) = prints Done (report program end.store ++ cost_line cost)
explained program (Fault code cost) = prints Trapped (fault_line code ++ cost_line cost)
explained program More = prints Bound (codes "bound" ++ line_end)

-- the same of a result of the interpreter
abbrev pub Tells : Source → Outcome → Planned → Type 0
Tells program (outcome.Done store cost) p = p ≡ prints Done (report program store ++ cost_line cost)
Tells program (outcome.Fault code cost) p = p ≡ prints Trapped (fault_line code ++ cost_line cost)
Tells program outcome.More p = p ≡ prints Bound (codes "bound" ++ line_end)

-- the input is checked, and then the program is interpreted on it
abbrev pub IsExplainedInput : Result (List FieldWord) LoadError → Source → Limits → ℕ → Planned
    → Type 0
IsExplainedInput (Err e) program limits fuel p = p ≡ prints InputRefused (load_line e)
IsExplainedInput (Ok input) program limits fuel p =
    p ≡ explained program (source program limits input fuel)

-- the sizes are tried before the input
abbrev pub IsExplainedWithin : Option LoadError → (given : List ℕ) → Source → Limits → ℕ → Planned
    → Type 0
IsExplainedWithin (Some e) given program limits fuel p = p ≡ prints InputRefused (load_line e)
IsExplainedWithin None given program limits fuel p =
    IsExplainedInput (given_input program given) program limits fuel p

abbrev pub IsExplainPlan : (text given : List ℕ) → (sizes : Sizes) → Planned → Type 0
IsExplainPlan text given sizes p =
    IsJudgedPlan text (λ program. IsExplainedWithin
    (limits_refusal sizes.room.heap sizes.room.deep MOST_OPEN) given
    program (record { heap = sizes.room.heap; deep = sizes.room.deep }) sizes.bound) p

-- the plan of `explain` of this file, on an input if there is one
abbrev pub Explains : (file : List ℕ) → (input : Option (List ℕ)) → (sizes : Sizes)
    → Option Texts
    → Planned → Type 0
Explains file input sizes told p =
    WithText told file MOST_BYTES
    (λ text. WithInput told input (λ given. IsExplainPlan text given sizes p))
