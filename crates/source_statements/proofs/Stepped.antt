-- A step of a run.
use Rattle.std.proofs.Common.{◌≡◌, ◌<◌, ◌≤◌, ◌+◌, ◌*◌, ◌∙◌, ℕ, sym, ap, subst, arith, Bool, true, false}
use Rattle.source_blocks.specs.rpp_tree.Tree.{Statement, Statements}
use Rattle.std.specs.Prelude.{Result, Ok, Err, OnOk}
use Rattle.source_blocks.specs.roopl_semantics.Run.{◌>>=◌, spend}
use Rattle.source_blocks.specs.roopl_semantics.Execution.{Setting}
use Rattle.source_blocks.specs.meaning_machine.Machine.{Config, closing, stepped}
use Rattle.source_blocks.specs.meaning_machine.Reversed.{stepped_back}
use Rattle.source_blocks.specs.source_steps.declared.stop.Stop.{Stop}
use Rattle.source_blocks.specs.source_steps.Metered.{Went, metered, Failed, MeteredGives}
use Rattle.source_blocks.specs.source_steps.StateView.{setting_of}
use Rattle.source_blocks.proofs.source_steps_laws.Fuelled.{goes, fails}
use Rattle.source_blocks.specs.declared.run.Run.{Run}
use Rattle.source_blocks.specs.Blocks.{statement_count, statement_at}
use Rattle.source_blocks.specs.Tasks.{task_of}
use Rattle.source_blocks.specs.Runs.{config_of, here_in, rest_in}
use Rattle.source_blocks.proofs.Blocks.{rest_here, rest_end}
use Rattle.source_statements.specs.Endings.{Falls}
use Rattle.source_statements.specs.Steps.{begun_in, step_in, FallsBehind, StepFalls}

module _ (run : Run) where
  abbrev here : Setting
  here = setting_of run.setting

  abbrev place : Config
  place = config_of run

  step_ends : (back : Bool) → statement_count (task_of run.task) ≤ run.at
      → closing here place place.around ≡ step_in back here place
  step_ends false h = sym (ap (stepped here place) (rest_end run.at (task_of run.task) h))
  step_ends true h = sym (ap (stepped_back here place) (rest_end run.at (task_of run.task) h))

  step_begins : (back : Bool) → run.at < statement_count (task_of run.task)
      → step_in back here place ≡ spend 1 >>= (λ u. begun_in back here place (here_in run) (rest_in run))
  step_begins false h = ap (stepped here place) (rest_here run.at (task_of run.task) h)
  step_begins true h = ap (stepped_back here place) (rest_here run.at (task_of run.task) h)

  pub ended_gives : {E : Type 0} (f : E → Config) (result : Result E Stop) (fuel left : ℕ) (back : Bool)
      → statement_count (task_of run.task) ≤ run.at
      → MeteredGives f result left (metered fuel (closing here place place.around))
      → MeteredGives f result left (metered fuel (step_in back here place))
  ended_gives f result fuel left back h g =
      subst (λ r. MeteredGives f result left (metered fuel r)) (step_ends back h) g

  pub begins_unpaid : (fuel left : ℕ) (why : Stop) (back : Bool) → run.at < statement_count (task_of run.task)
      → Failed why left (metered fuel (spend 1)) → Failed why left (metered fuel (step_in back here place))
  begins_unpaid fuel left why back h e = subst (λ r. Failed why left (metered fuel r)) (sym (step_begins back h))
      (fails fuel left (spend 1) (λ u. begun_in back here place (here_in run) (rest_in run)) why e)

  pub begins_gives : {E : Type 0} (f : E → Config) (result : Result E Stop) (fuel one left : ℕ) (back : Bool)
      → run.at < statement_count (task_of run.task) → metered fuel (spend 1) ≡ Went tt one
      → MeteredGives f result left (metered one (begun_in back here place (here_in run) (rest_in run)))
      → MeteredGives f result left (metered fuel (step_in back here place))
  begins_gives f result fuel one left back h e g =
      subst (λ r. MeteredGives f result left (metered fuel r)) (sym (step_begins back h))
      (subst (λ m. MeteredGives f result left m)
      (sym (goes fuel one (spend 1) tt (λ u. begun_in back here place (here_in run) (rest_in run)) e)) g)

  pub begins_falls : {E : Type 0} (result : Result E Stop) (after first : ℕ) → run.at < statement_count (task_of run.task)
      → OnOk result (after < first) → OnOk result (StepFalls place after first)
  begins_falls (Ok u) after first h l =
      subst (λ body. FallsBehind body place.around after first) (sym (rest_here run.at (task_of run.task) h)) l
  begins_falls (Err why) after first h l = tt

-- facts about the block of the text that runs
module _ (run : Run) (block : Statements) (text : task_of run.task ≡ block) where
  pub past_of : statement_count block ≤ run.at → statement_count (task_of run.task) ≤ run.at
  past_of h = subst (λ b. statement_count b ≤ run.at) (sym text) h

  pub within_of : run.at < statement_count block → run.at < statement_count (task_of run.task)
  within_of h = subst (λ b. run.at < statement_count b) (sym text) h

  pub here_of : (s : Statement) → s ≡ statement_at run.at block → here_in run ≡ s
  here_of s h = ap (statement_at run.at) text ∙ sym h

-- what falls at an end
pub end_falls : {E : Type 0} (run : Run) (result : Result E Stop) (after first : ℕ)
    → statement_count (task_of run.task) ≤ run.at → OnOk result (Falls (config_of run).around after first)
    → OnOk result (StepFalls (config_of run) after first)
end_falls run (Ok u) after first h l =
    subst (λ body. FallsBehind body (config_of run).around after first) (sym (rest_end run.at (task_of run.task) h)) l
end_falls run (Err why) after first h l = tt

-- a step that is paid lowers the measure, though it opens a statement
pub paid_falls : {E : Type 0} (result : Result E Stop) (fuel one left many before : ℕ) → one + 1 ≡ fuel → left ≤ one
    → OnOk result (many ≤ 1 + before) → OnOk result (2 * left + many < 2 * fuel + before)
paid_falls (Ok u) fuel one left many before p l m = omega arith
paid_falls (Err why) fuel one left many before p l m = tt
