-- A run of a program and its backward run: what its report says, and that the inverse image
-- restores every register and every cell.
use Rattle.std.proofs.Common.{◌≡◌, ◌∙◌, sym, ap, subst, ℕ, ◌+◌, ◌<◌, ◌≤◌, List, ◌++◌, length, Ok, Err, refl}
use Rattle.std.proofs.Common.{arith}
use Rattle.std.specs.Prelude.{Result, OnOk}
use Rattle.command_plan.specs.rpp_words.declared.input.FieldWord.{FieldWord}
use Rattle.command_plan.specs.rpp_words.declared.input.Limits.{Limits}
use Rattle.command_plan.specs.rpp_tree.Tree.{Source}
use Rattle.image_inverter.specs.pisa_isa.declared.machine.Stop.{Stop}
use Rattle.image_inverter.specs.pisa_isa.declared.machine.Stop.TheVariants.{Finished, Trap, Bound, Returned, BadAddress}
use Rattle.image_inverter.specs.pisa_isa.declared.machine.Stop.TheVariants.{OffCode}
use Rattle.image_inverter.specs.pisa_isa.Image.{Segments, IsImage}
use Rattle.image_inverter.specs.pisa_isa.Flipped.{flipped, Restores}
use Rattle.image_inverter.specs.pisa_isa.Loaded.{loaded, loaded_state}
use Rattle.image_inverter.specs.pisa_isa.Machine.{IsState}
use Rattle.image_inverter.specs.pisa_isa.Runs.{End, run, started, zero_registers}
use Rattle.image_inverter.proofs.pisa_isa_laws.Restored.{flipped_run_restores}
use Rattle.image_inverter.proofs.pisa_isa_laws.Reached.{reached_is_state}
use Rattle.store_report.specs.pisa_machine.Position.{Position, IsMachine}
use Rattle.store_report.specs.roopl_semantics.StandsFor.{run_of, StandsFor}
use Rattle.store_report.specs.Memory.{IsMemoryOf, IsFirstMemoryOf}
use Rattle.program_commands.specs.GoRun.{IsLoaded, HasRun, ReportsTurn, ReportsTurned}
use Rattle.store_report.specs.roopl_semantics.Source.{starting}
use Rattle.store_report.specs.roopl_semantics.Store.{State}
use Rattle.store_report.specs.roopl_semantics.Report.{report}
use Rattle.program_commands.proofs.Reported.{final, final_memory, soon_over}
use Rattle.command_plan.specs.command_ends.declared.verdict.Verdict.TheVariants.{Done}
use Rattle.command_plan.specs.Plans.{Planned, prints}
use Rattle.program_commands.specs.ProgramPlans.{ReportsStop, RunsImage, back_lines}
use Rattle.program_commands.specs.RunPlans.{steps_back, with_way_back}
use Rattle.command_plan.specs.Texts.{steps_line}

module _ (program : Source) (limits : Limits) (input : List FieldWord) (bound : ℕ) (end : Position) (spent : ℕ) where
  abbrev first_cells : List ℕ
  first_cells = loaded end.image.statics limits input

  -- for each stop; after a finish the inverse image restores
  pub restores : (why : Stop) → HasRun program limits input bound end why spent
      → (run_of end.image limits input bound).why ≡ Finished
      → Restores end.image.code (run_of end.image limits input bound) bound zero_registers first_cells
  restores why has finished =
      flipped_run_restores end.image.code bound zero_registers first_cells bound has.is_image.is_code
      has.is_image.one_start has.is_image.one_finish has.begun
      ((has.stands.follows limits input has.allowed has.valid).clean bound finished)
      (subst (λ n. n ≤ bound) (sym (ap (λ (e : End). e.spent) has.runs)) has.within)

  restored : HasRun program limits input bound end Finished spent
      → Restores end.image.code (record { why = Finished; spent = spent; last = end.state }) bound zero_registers
      first_cells
  restored has =
      subst (λ (e : End). Restores end.image.code e bound zero_registers first_cells) has.runs
      (restores Finished has (ap (λ (e : End). e.why) has.runs))

  -- what the run of the inverse image from there leaves
  pub back_cells : HasRun program limits input bound end Finished spent
      → (after : End) → run (flipped end.image.code) bound
      (started (flipped end.image.code) end.state.regs end.state.cells) ≡ after → after.last.cells ≡ first_cells
  back_cells has after is = sym (ap (λ (e : End). e.last.cells) is) ∙ (restored has).memory

  pub back_spent : HasRun program limits input bound end Finished spent
      → (after : End) → run (flipped end.image.code) bound
      (started (flipped end.image.code) end.state.regs end.state.cells) ≡ after → after.spent ≡ spent
  back_spent has after is = sym (ap (λ (e : End). e.spent) is) ∙ (restored has).in_as_many

  same_lines : (back spent count n : ℕ) (here shown : List ℕ) → back ≡ spent → here ≡ shown → count ≡ n
      → back_lines back here count ≡ back_lines spent shown n
  same_lines back spent count n here shown e f h = rw (e, f, h)

  -- the memory of the way back is that in which a run of the program begins
  pub first_memory : (why : Stop) → HasRun program limits input bound end why spent → (cells : List ℕ)
      → cells ≡ first_cells → IsFirstMemoryOf program cells input
  first_memory why has cells is = record {
    image = end.image;
    limits = limits;
    statics = has.stands.statics;
    in_range = has.allowed;
    valid = has.valid;
    loads = is;
  }

  -- a plan that prints both reports, of the memory where the run finished and of the one where the
  -- way back did
  pub reports_turn : (has : HasRun program limits input bound end Finished spent)
      → (there here cells : List ℕ) (back count : ℕ) (p : Planned)
      → ((last : State) → IsMemoryOf program end.state.cells last → there ≡ report program last.store)
      → ((given : List FieldWord) → IsFirstMemoryOf program cells given
      → here ≡ report program (starting program given).store)
      → cells ≡ first_cells → back ≡ spent → count ≡ length cells
      → p ≡ prints Done ((there ++ steps_line spent) ++ back_lines back here count)
      → ReportsTurn program limits input first_cells spent p
  reports_turn has there here cells back count p shown shown_back same_cells same_spent same_count is =
      let fin = final program limits input bound end spent has in
      record {
        end = fin.end;
        gives = fin.gives;
        reported =
            is
            ∙ ap (λ (text : List ℕ). prints Done ((text ++ steps_line spent) ++ back_lines back here count))
            (shown fin.end (final_memory program limits input bound end spent has))
            ∙ ap (λ (text : List ℕ). prints Done ((report program fin.end.store ++ steps_line spent) ++ text))
            (same_lines back spent count (length first_cells) here (report program (starting program input).store)
            same_spent (shown_back input (first_memory Finished has cells same_cells))
            (same_count ∙ ap length same_cells));
      }

  -- the plan of a run, from what its reports say
  abbrev pub runs_image : (why : Stop) → HasRun program limits input bound end why spent
      → (p : Planned) → ReportsStop why program limits input spent bound p
      → (count counted : ℕ) → counted ≡ count + spent → RunsImage count counted program limits input bound p
  runs_image why has p reports count counted once = record {
    image = end.image;
    is_image = has.is_image;
    stands = has.stands;
    in_time = λ cost ends. soon_over program end.image limits input bound cost
        ((has.stands.follows limits input has.allowed has.valid).in_time cost ends);
    restores = restores why has;
    reports = subst (λ (e : End). ReportsStop e.why program limits input e.spent bound p) (sym has.runs) reports;
    once = subst (λ (e : End). counted ≡ count + e.spent) (sym has.runs) once;
  }

  -- the plan of `turn` from that of `go`
  pub record SaysTurn (why : Stop) (p : Planned) : Type 0 where
    pub said : Planned
    pub reports : ReportsStop why program limits input spent bound said
    pub reported : p ≡ with_way_back why (back_lines spent (report program (starting program input).store)
        (length first_cells)) said

  pub says_turn : (why : Stop) (p : Planned) → ReportsTurned why program limits input first_cells spent bound p
      → SaysTurn why p
  says_turn Finished p turns = record {
    said = prints Done (report program turns.end.store ++ steps_line spent);
    reports = record { end = turns.end; gives = turns.gives; reported = refl };
    reported = turns.reported;
  }
  says_turn (Trap code) p stops = record { said = p; reports = stops; reported = refl }
  says_turn Bound p stops = record { said = p; reports = stops; reported = refl }
  says_turn Returned p stops = absurd stops
  says_turn (BadAddress address) p stops = absurd stops
  says_turn (OffCode at) p stops = absurd stops

  -- a run from where the image is loaded
  pub has_run : (start : Position) (why : Stop) → IsLoaded program limits input start → IsMachine start
      → end.image ≡ start.image → spent ≤ bound
      → run start.image.code bound start.state ≡ record { why = why; spent = spent; last = end.state }
      → HasRun program limits input bound end why spent
  has_run start why loads machine same within ran = record {
    allowed = loads.allowed;
    valid = loads.valid;
    stands = subst (StandsFor program) (sym same) loads.stands;
    is_image = subst IsImage (sym same) machine.is_image;
    begun = subst (λ (i : Segments). IsState (loaded_state i limits input)) (sym same)
        (subst IsState (ap (λ (p : Position). p.state) loads.first)
        (reached_is_state start.image.code start.made start.state machine.is_image.is_code machine.reached));
    within = within;
    runs = ap (λ (i : Segments). run_of i limits input bound) same
        ∙ sym (ap (λ (p : Position). run start.image.code bound p.state) loads.first) ∙ ran;
  }

-- both, after every result that is no error
pub both : {A E : Type 0} (r : Result A E) (C D : Type 0) → OnOk r C → OnOk r D → OnOk r (C × D)
both (Ok x) C D h k = (h, k)
both (Err e) C D h k = tt

-- ---- the counter of machine steps

none_more : (count back : ℕ) → back ≡ 0 → count ≡ count + back
none_more count back none = omega (arith, none)

-- no way back
pub none_back : {A E : Type 0} (r : Result A E) (count spent : ℕ) (why : Stop) → steps_back why spent ≡ 0
    → OnOk r (count ≡ count + steps_back why spent)
none_back (Ok x) count spent why none = none_more count (steps_back why spent) none
none_back (Err e) count spent why none = tt

-- a run that no memory was found in made no more steps than it might
pub broken_within : (count counted whole bound : ℕ) → counted ≡ count + (whole + 1) → whole < bound
    → counted ≤ count + bound
broken_within count counted whole bound made few = omega (arith, made, few)
