-- What is printed of a result of the interpreter is what the semantics is.
use Rattle.std.proofs.Common.{◌≡◌, ◌∙◌, sym, ap, ◌++◌}
use Rattle.std.specs.Prelude.{Result, Ok, Err, IfOk}
use Rattle.run_settings.specs.rpp_tree.Tree.{Source}
use Rattle.store_report.specs.roopl_semantics.Run.{Run}
use Rattle.store_report.specs.roopl_semantics.Store.{State}
use Rattle.store_report.specs.roopl_semantics.Report.{report}
use Rattle.source_meaning.specs.declared.outcome.Outcome.{Outcome}
use Rattle.source_meaning.specs.declared.outcome.Outcome.TheVariants as outcome
use Rattle.source_meaning.specs.Outcomes.{IsOutcome}
use Rattle.run_settings.specs.command_plan.declared.plan.Plan.{Plan}
use Rattle.run_settings.specs.command_ends.declared.verdict.Verdict.TheVariants.{Done}
use Rattle.run_settings.specs.command_plan.Plans.{Planned, planned, prints}
use Rattle.explain_commands.specs.Explained.{cost_line, explained, Tells}

told_is : (program : Source) (answer : Outcome) (run : Run State) (p : Planned) → IsOutcome answer run
    → Tells program answer p → p ≡ explained program run
told_is program (outcome.Done store cost) run p is t =
    t ∙ ap (λ s. prints Done (report program s ++ cost_line cost)) (sym is.same) ∙ sym (ap (explained program) is.done)
told_is program (outcome.Fault code cost) run p is t = t ∙ sym (ap (explained program) is)
told_is program outcome.More run p is t = t ∙ sym (ap (explained program) is)

pub explains_run : {E : Type 0} (r : Result Plan E) (program : Source) (answer : Outcome) (run : Run State)
    → IsOutcome answer run
    → IfOk r (λ plan. Tells program answer (planned plan)) → IfOk r (λ plan. planned plan ≡ explained program run)
explains_run (Err why) program answer run is t = tt
explains_run (Ok plan) program answer run is t = told_is program answer run (planned plan) is t
