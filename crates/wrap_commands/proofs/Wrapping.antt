-- The premises of the plan of a wrapped run, and what it reports.
use Rattle.std.proofs.Common.{◌≡◌, ◌∙◌, sym, ap, subst, ℕ, ◌+◌, ◌-◌, ◌<◌, ◌≤◌, List, [], ◌∷◌, ◌++◌, length}
use Rattle.std.proofs.Common.{length-append, map, replicate, arith, ⊎_elim}
use Rattle.std.specs.Prelude.{ℤ}
use Rattle.std.specs.List.{All}
use Rattle.std.proofs.lemmas.Bool.{cases_lt}
use Rattle.std.proofs.lemmas.List.{length-map}
use Rattle.std.proofs.lemmas.List.Elements.{All-head, All-tail, All-nil, All-cons, All-map}
use Rattle.command_plan.specs.rpp_words.Words.{IsWord}
use Rattle.command_plan.specs.rpp_words.Limits.{IsLimits}
use Rattle.command_plan.specs.rpp_words.declared.input.FieldWord.{FieldWord}
use Rattle.command_plan.specs.rpp_words.declared.input.Limits.{Limits}
use Rattle.command_plan.specs.rpp_tree.Tree.{Source}
use Rattle.command_plan.specs.class_rules.Program.{IsAccepted}
use Rattle.store_report.specs.pisa_isa.declared.cell.Cell.{Cell}
use Rattle.store_report.specs.pisa_isa.declared.machine.Stop.{Stop}
use Rattle.store_report.specs.pisa_isa.declared.machine.Stop.TheVariants.{Finished, Trap, Returned, BadAddress, OffCode, Bound}
use Rattle.store_report.specs.pisa_isa.Image.{Segments, IsImage}
use Rattle.store_report.specs.pisa_isa.Loaded.{loaded}
use Rattle.store_report.specs.pisa_isa.Runs.{End, run, zero_registers}
use Rattle.store_report.specs.pisa_machine.Position.{Position, IsMachine, first_position}
use Rattle.command_plan.specs.pisa_loader.declared.input.InputField.{InputField}
use Rattle.program_runs.specs.run_settings.roopl_semantics.Store.{main_name, object_at}
use Rattle.program_runs.specs.run_settings.roopl_semantics.Source.{GivesFault, IsValid}
use Rattle.program_runs.specs.run_settings.roopl_semantics.Layout.{layout}
use Rattle.program_runs.specs.run_settings.roopl_semantics.StandsFor.{StandsFor, EndsAt}
use Rattle.refine_wrap.specs.bennett_wrap.Wrapped.{Wrapped, begun_on, with_zeros}
use Rattle.refine_wrap.specs.Programs.{EndsAsSource, EndsDone, IsStatic, field_cell, enough_wrapped, wrapped_run}
use Rattle.refine_wrap.proofs.IntFields.{int_fields}
use Rattle.refine_wrap.proofs.Told.{wrapped_programs_follow}
use Rattle.program_runs.proofs.run_settings_laws.ValidInput.{field_fits}
use Rattle.command_plan.specs.command_ends.declared.verdict.Verdict.TheVariants.{Done}
use Rattle.command_plan.specs.Plans.{Planned, prints}
use Rattle.command_plan.specs.Texts.{steps_line}
use Rattle.wrap_commands.specs.WrapNames.{HasLowNumber, result_cells}
use Rattle.wrap_commands.specs.WrapShown.{result_lines, word_lines, initial_line}
use Rattle.wrap_commands.specs.WrapPlans.{AreResults, TellsResults, TellsStop, WrapsImage}
use Rattle.wrap_commands.specs.WrapRun.{HasWrapped}
use Rattle.wrap_commands.proofs.Words.{Holds, words_shown}

-- ---- before the run

-- the numbers of results are those of static cells
pub low_numbers : (program : Source) (image : Segments) (fields : List InputField) → IsImage image
    → StandsFor program image → AreResults program fields → All HasLowNumber fields
low_numbers program image fields is_image stands are =
    let most = is_image.statics_in_limit in
    λ k d h. let fits = field_fits program image _ stands.statics (are.ints k d h) in omega (arith, fits, most)

static_cells : (program : Source) (image : Segments) (fields : List InputField) → StandsFor program image
    → AreResults program fields → All (IsStatic image) (result_cells fields)
static_cells program image fields stands are =
    All-map (IsStatic image) (λ field. field_cell field.field) fields
    (λ k d h. let fits = field_fits program image _ stands.statics (are.ints k d h) in
    (omega arith, omega (arith, fits)))

front_words : (xs ys : List ℕ) → All IsWord (xs ++ ys) → All IsWord xs
front_words [] ys all = All-nil IsWord
front_words (x ∷ xs) ys all = All-cons IsWord x xs (All-head IsWord x (xs ++ ys) all)
    (front_words xs ys (All-tail IsWord x (xs ++ ys) all))

-- a machine that begins so, and runs, is where the wrapped run ended
pub has_wrapped : (program : Source) (fields : List InputField) (limits : Limits) (input : List FieldWord) (bound : ℕ)
    (image wrapped : Segments) (cells : List ℕ) (count : ℕ) (first end : Position) (why : Stop) (spent : ℕ)
    → IsAccepted program → IsLimits limits → IsValid program input → IsImage image → StandsFor program image
    → AreResults program fields
    → cells ≡ result_cells fields → count ≡ length cells → Wrapped image.code cells wrapped.code
    → wrapped.statics ≡ image.statics
    → first ≡ first_position wrapped zero_registers (loaded wrapped.statics limits input ++ replicate count 0)
    → IsMachine first → end.image ≡ first.image → run first.image.code bound first.state
    ≡ record { why = why; spent = spent; last = end.state }
    → HasWrapped program fields limits input bound image end why spent
has_wrapped program fields limits input bound image wrapped cells count first end why spent accepted allowed valid
    is_image stands are cells_are many wraps statics begins machine same runs =
    let memory : loaded wrapped.statics limits input ++ replicate count 0
    ≡ with_zeros (loaded image.statics limits input) (result_cells fields) =
    ap (λ s. loaded s limits input ++ replicate count 0) statics
    ∙ ap (λ k. loaded image.statics limits input ++ replicate k 0) (many ∙ ap length cells_are) in
    let code : first.image.code ≡ wrapped.code = ap (λ (p : Position). p.image.code) begins in
    let at_start : first.state ≡ begun_on wrapped.code (with_zeros (loaded image.statics limits input)
    (result_cells fields)) =
    ap (λ (p : Position). p.state) begins ∙ ap (begun_on wrapped.code) memory in
    let own : end.image.code ≡ wrapped.code = ap (λ (i : Segments). i.code) same ∙ code in
    let began : IsMachine (first_position wrapped zero_registers
    (loaded wrapped.statics limits input ++ replicate count 0)) = subst IsMachine begins machine in
    let words : All IsWord (loaded image.statics limits input) =
    front_words (loaded image.statics limits input) (replicate (length (result_cells fields)) 0)
    (subst (All IsWord) memory began.reached.is_state.cell_words) in
    let few : length (result_cells fields) ≤ 64 = let most = are.few in
    omega (arith, most, length-map fields (λ field. field_cell field.field)) in
    let wraps_own : Wrapped image.code (result_cells fields) end.image.code =
    subst (λ (c : List Cell). Wrapped image.code (result_cells fields) c) (sym own)
    (subst (λ cs. Wrapped image.code cs wrapped.code) cells_are wraps) in
    record {
      accepted = accepted;
      allowed = allowed;
      valid = valid;
      is_image = is_image;
      results = are;
      follows = wrapped_programs_follow program image (result_cells fields) end.image.code limits input is_image stands
          wraps_own few (static_cells program image fields stands are) allowed valid words;
      runs = ap (λ c. run c bound (begun_on c (with_zeros (loaded image.statics limits input) (result_cells fields))))
          own
          ∙ ap (run wrapped.code bound) (sym at_start) ∙ ap (λ c. run c bound first.state) (sym code) ∙ runs;
    }

-- ---- after the run

module _ (program : Source) (fields : List InputField) (limits : Limits) (input : List FieldWord) (bound : ℕ)
    (image : Segments) (end : Position) (spent : ℕ) where
  abbrev whole : End
  whole = wrapped_run image (result_cells fields) end.image.code limits input bound

  ends : (why : Stop) → HasWrapped program fields limits input bound image end why spent
      → EndsAsSource program image (result_cells fields) limits input whole
  ends why has = has.follows.ends bound

  why_is : (why : Stop) (has : HasWrapped program fields limits input bound image end why spent) → whole.why ≡ why
  why_is why has = ap (λ e. e.why) has.runs

  pub no_return : HasWrapped program fields limits input bound image end Returned spent → ⊥
  no_return has = (ends Returned has).not_returned (why_is Returned has)

  pub no_bad_address : (a : ℕ) → HasWrapped program fields limits input bound image end (BadAddress a) spent → ⊥
  no_bad_address a has = (ends (BadAddress a) has).in_memory a (why_is (BadAddress a) has)

  pub no_off_code : (at : ℤ) → HasWrapped program fields limits input bound image end (OffCode at) spent → ⊥
  no_off_code at has = (ends (OffCode at) has).in_code at (why_is (OffCode at) has)

  pub gives_fault : (code : ℕ) → HasWrapped program fields limits input bound image end (Trap code) spent
      → GivesFault program limits input code
  gives_fault code has = (ends (Trap code) has).fault code (why_is (Trap code) has)

  pub too_early : HasWrapped program fields limits input bound image end Bound spent → (cost : ℕ)
      → EndsAt program limits input cost → bound < enough_wrapped cost
  too_early has cost over =
      ⊎_elim (λ (less : bound < enough_wrapped cost). less)
      (λ (enough : enough_wrapped cost ≤ bound). absurd (has.follows.in_time cost bound over enough (why_is Bound has)))
      (cases_lt bound (enough_wrapped cost))

  done : HasWrapped program fields limits input bound image end Finished spent
      → EndsDone program image (result_cells fields) limits input end.state
  done has = subst (λ (e : End). EndsDone program image (result_cells fields) limits input e.last) has.runs
      ((ends Finished has).done (why_is Finished has))

  pub size : HasWrapped program fields limits input bound image end Finished spent
      → length end.state.cells ≡ length (loaded image.statics limits input) + length fields
  size has =
      let d = done has in
      let lay : List ℕ = layout program limits image.statics d.end.store d.end.log in
      let values : List ℕ = map (Rattle.std.specs.Prelude.slice_index lay) (result_cells fields) in
      ap length d.memory ∙ length-append (loaded image.statics limits input) values
      ∙ ap (λ n. length (loaded image.statics limits input) + n)
      (length-map (result_cells fields) (Rattle.std.specs.Prelude.slice_index lay)
      ∙ length-map fields (λ field. field_cell field.field))

  -- a plan that prints the lines of the words after the first memory reports the results of the
  -- source's store
  pub tells_results : HasWrapped program fields limits input bound image end Finished spent
      → (initial : ℕ) (lines : List ℕ) (p : Planned)
      → initial ≡ length end.state.cells - length fields → lines ≡ word_lines fields end.state.cells initial
      → p ≡ prints Done ((lines ++ initial_line initial) ++ steps_line spent)
      → TellsResults program image fields limits input end.state spent p
  tells_results has initial lines p count are told =
      let d = done has in
      let first : List ℕ = loaded image.statics limits input in
      let lay : List ℕ = layout program limits image.statics d.end.store d.end.log in
      let cells = (object_at d.end.store main_name).cells in
      let behind : initial ≡ length first = let s = size has in omega (arith, count, s) in
      let holds : All (Holds lay cells) fields = λ k e h. int_fields program limits input d.end image.statics _
      has.accepted has.allowed has.valid d.gives (has.results.ints k e h) in
      let shown : lines ≡ result_lines fields cells =
      are ∙ ap (λ k. word_lines fields end.state.cells k) behind
      ∙ ap (λ xs. word_lines fields xs (length first)) d.memory ∙ words_shown lay cells first fields holds in
      record {
        done = d;
        told = told ∙ ap (λ k. prints Done ((lines ++ initial_line k) ++ steps_line spent)) behind
            ∙ ap (λ text. prints Done ((text ++ initial_line (length first)) ++ steps_line spent)) shown;
      }

  pub wraps_image : (why : Stop) → HasWrapped program fields limits input bound image end why spent
      → StandsFor program image → IsImage end.image → Wrapped image.code (result_cells fields) end.image.code
      → (p : Planned) → TellsStop why program image fields limits input end.state spent bound p
      → (count counted : ℕ) → counted ≡ count + spent
      → WrapsImage count counted program fields limits input bound p
  wraps_image why has stands is_image wraps p tells count counted once = record {
    image = image;
    is_image = has.is_image;
    stands = stands;
    wrapped = end.image;
    wrapped_is_image = is_image;
    wraps = wraps;
    tells = subst (λ (e : End). TellsStop e.why program image fields limits input e.last e.spent bound p)
        (sym has.runs) tells;
    once = subst (λ (e : End). counted ≡ count + e.spent) (sym has.runs) once;
  }
