-- The report of the memory of a finished run is that of the source's store.
use Rattle.std.proofs.Common.{◌≡◌, ◌∙◌, sym, ap, subst, ℕ, zero, suc, ◌+◌, ◌-◌, ◌<◌, ◌≤◌, List, ◌++◌, Option, Some}
use Rattle.std.proofs.Common.{None, arith, ⊎_elim}
use Rattle.std.specs.Prelude.{ℤ}
use Rattle.std.proofs.lemmas.Bool.{cases_lt}
use Rattle.command_plan.specs.rpp_words.declared.input.FieldWord.{FieldWord}
use Rattle.command_plan.specs.rpp_words.declared.input.Limits.{Limits}
use Rattle.command_plan.specs.rpp_tree.Tree.{Source}
use Rattle.image_inverter.specs.pisa_isa.declared.machine.Stop.{Stop}
use Rattle.image_inverter.specs.pisa_isa.declared.machine.Stop.TheVariants.{Finished, Trap, Returned, BadAddress, OffCode, Bound}
use Rattle.image_inverter.specs.pisa_isa.declared.cell.Cell.{Cell}
use Rattle.image_inverter.specs.pisa_isa.Image.{Segments}
use Rattle.image_inverter.specs.pisa_isa.Loaded.{loaded_state}
use Rattle.image_inverter.specs.pisa_isa.Machine.{State as MachineState, stop, next}
use Rattle.image_inverter.specs.pisa_isa.Runs.{End, run, after_step, counted}
use Rattle.image_inverter.proofs.pisa_isa_laws.Longer.{run-longer}
use Rattle.store_report.specs.pisa_machine.Position.{Position}
use Rattle.store_report.specs.roopl_semantics.Source.{GivesFault}
use Rattle.store_report.specs.roopl_semantics.StandsFor.{Follows, IsFinalState, IsEnough, EndsAt, run_of, enough_steps}
use Rattle.store_report.specs.roopl_semantics.Store.{State}
use Rattle.store_report.specs.roopl_semantics.Report.{report}
use Rattle.store_report.specs.Memory.{IsMemoryOf}
use Rattle.program_commands.specs.GoRun.{HasRun}
use Rattle.command_plan.specs.Plans.{Planned, prints}
use Rattle.program_runs.specs.Reports.{ReportsStore}
use Rattle.command_plan.specs.Texts.{steps_line}
use Rattle.command_plan.specs.command_ends.declared.verdict.Verdict.TheVariants.{Done}

module _ (program : Source) (limits : Limits) (input : List FieldWord) (bound : ℕ) (end : Position) (spent : ℕ) where
  follows : (why : Stop) → HasRun program limits input bound end why spent → Follows program end.image limits input
  follows why has = has.stands.follows limits input has.allowed has.valid

  why_is : (why : Stop) (has : HasRun program limits input bound end why spent)
      → (run_of end.image limits input bound).why ≡ why
  why_is why has = ap (λ e. e.why) has.runs

  pub no_return : HasRun program limits input bound end Returned spent → ⊥
  no_return has = (follows Returned has).not_returned bound (why_is Returned has)

  pub no_bad_address : (a : ℕ) → HasRun program limits input bound end (BadAddress a) spent → ⊥
  no_bad_address a has = (follows (BadAddress a) has).in_memory bound a (why_is (BadAddress a) has)

  pub no_off_code : (at : ℤ) → HasRun program limits input bound end (OffCode at) spent → ⊥
  no_off_code at has = (follows (OffCode at) has).in_code bound at (why_is (OffCode at) has)

  pub gives_fault : (code : ℕ) → HasRun program limits input bound end (Trap code) spent
      → GivesFault program limits input code
  gives_fault code has = (follows (Trap code) has).trapped bound code (why_is (Trap code) has)

  -- the memory of a finished run is that of the source's final state
  pub final : HasRun program limits input bound end Finished spent
      → IsFinalState program end.image limits input end.state
  final has = subst (λ (e : End). IsFinalState program end.image limits input e.last) has.runs
      ((follows Finished has).finished bound (why_is Finished has))

  pub final_memory : (has : HasRun program limits input bound end Finished spent)
      → IsMemoryOf program end.state.cells (final has).end
  final_memory has = record {
    image = end.image;
    limits = limits;
    input = input;
    statics = has.stands.statics;
    in_range = has.allowed;
    valid = has.valid;
    gives = (final has).gives;
    laid = (final has).cells;
  }

  -- a plan that prints the report of that memory, and the number of steps, reports the source's store
  pub reports_store : HasRun program limits input bound end Finished spent → (lines : List ℕ) (p : Planned)
      → ((last : State) → IsMemoryOf program end.state.cells last
      → lines ≡ report program last.store)
      → p ≡ prints Done (lines ++ steps_line spent)
      → ReportsStore program limits input spent p
  reports_store has lines p shown is =
      record {
        end = (final has).end;
        gives = (final has).gives;
        reported = is ∙ ap (λ text. prints Done (text ++ steps_line spent)) (shown (final has).end (final_memory has));
      }

  -- if the bound ended a run, it was not enough for any cost at which the source ends
  pub too_early : HasRun program limits input bound end Bound spent → (cost : ℕ) → EndsAt program limits input cost
      → bound < enough_steps cost
  too_early has cost ends =
      ⊎_elim (λ (less : bound < enough_steps cost). less)
      (λ (enough : enough_steps cost ≤ bound). absurd (((follows Bound has).in_time cost ends).ends bound enough
      (why_is Bound has)))
      (cases_lt bound (enough_steps cost))

-- a run counts no more steps than it may make

spent_by_step : (o : Option Stop) (m : MachineState) (rest : End) (n : ℕ) → rest.spent ≤ n
    → (after_step o m rest).spent ≤ suc n
spent_by_step None m rest n h = omega arith
spent_by_step (Some why) m rest n h = counted_few why n
  where
    counted_few : (why : Stop) (n : ℕ) → counted why ≤ suc n
    counted_few Finished n = omega arith
    counted_few Returned n = omega arith
    counted_few (Trap code) n = omega arith
    counted_few (BadAddress address) n = omega arith
    counted_few (OffCode at) n = omega arith
    counted_few Bound n = omega arith

spent_within : (code : List Cell) (n : ℕ) (m : MachineState) → (run code n m).spent ≤ n
spent_within code zero m = omega arith
spent_within code (suc n) m = spent_by_step (stop code m) m (run code n (next code m)) n
    (spent_within code n (next code m))

-- and no more than the source's cost allows
pub soon_over : (program : Source) (image : Segments) (limits : Limits) (input : List FieldWord) (bound cost : ℕ)
    → IsEnough image limits input (enough_steps cost) → (run_of image limits input bound).spent ≤ enough_steps cost
soon_over program image limits input bound cost enough =
    let start = loaded_state image limits input in
    let most = enough_steps cost in
    ⊎_elim (λ (less : bound < most). let h = spent_within image.code bound start in omega arith)
    (λ (more : most ≤ bound).
    let e : bound ≡ most + (bound - most) = omega arith in
    let same = ap (λ k. run image.code k start) e ∙ run-longer image.code most (bound - most) start
    (enough.ends most (omega arith)) in
    subst (λ (end : End). end.spent ≤ most) (sym same) (spent_within image.code most start))
    (cases_lt bound most)
