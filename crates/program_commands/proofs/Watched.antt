-- What the probes of `turn` and `profile` observed.
use Rattle.std.proofs.Common.{◌≡◌, ◌∙◌, sym, ap, subst, subst₂, ℕ, ◌+◌, List, [], ◌∷◌, ◌++◌, map, Ok, Err, inr, length}
use Rattle.std.specs.Prelude.{Result, OnOk, IfErr}
use Rattle.std.proofs.lemmas.List.{map-append}
use Rattle.image_inverter.specs.pisa_isa.declared.cell.Cell.{Cell}
use Rattle.image_inverter.specs.pisa_isa.declared.machine.Stop.TheVariants.{Finished}
use Rattle.image_inverter.specs.pisa_isa.Flipped.{flipped}
use Rattle.image_inverter.specs.pisa_isa.Machine.{State}
use Rattle.command_plan.specs.rpp_words.declared.input.FieldWord.{FieldWord}
use Rattle.command_plan.specs.rpp_words.declared.input.Limits.{Limits}
use Rattle.command_plan.specs.rpp_tree.Tree.{Source}
use Rattle.command_plan.specs.rpp_probes.declared.probe.StepAt.{StepAt}
use Rattle.command_plan.proofs.rpp_probes_laws.Folds.{left_none}
use Rattle.command_plan.specs.rpp_probes.Tally.{Watch, left_after, lines_after, lines_shown, watch_line}
use Rattle.image_inverter.specs.pisa_isa.declared.machine.Stop.{Stop}
use Rattle.image_inverter.specs.pisa_isa.Image.{Segments, IsImage}
use Rattle.image_inverter.specs.pisa_isa.Loaded.{loaded}
use Rattle.image_inverter.specs.pisa_isa.Runs.{End, visited, started}
use Rattle.store_report.specs.pisa_machine.Position.{Position}
use Rattle.store_report.specs.pisa_machine.Told.{counted_steps, step_at, BreaksOff}
use Rattle.command_plan.specs.Plans.{Planned}
use Rattle.program_commands.specs.GoRun.{IsLoaded, HasRun, ReportsTurned}
use Rattle.program_commands.specs.ProgramPlans.{ReportsStop, back_lines}
use Rattle.program_commands.specs.RunPlans.{TurnsImage, ProfilesImage, back_steps, run_steps, steps_back, with_way_back}
use Rattle.program_commands.specs.ToldShort.{IsToldSoFar, TurnsShort, ProfilesShort}
use Rattle.program_commands.proofs.Turned.{runs_image, says_turn}
use Rattle.store_report.specs.roopl_semantics.Report.{report}
use Rattle.store_report.specs.roopl_semantics.Source.{starting}

-- if no step was observed, the probes are as they were
pub none_told : {A E : Type 0} (r : Result A E) (steps : List StepAt) (ws : List Watch) → steps ≡ []
    → OnOk r (ws ≡ left_after steps ws)
none_told (Ok x) steps ws none = sym (ap (λ l. left_after l ws) none ∙ left_none ws)
none_told (Err e) steps ws none = tt

pub err_weaken : {A E : Type 0} (r : Result A E) (P Q : Type 0) → (P → Q) → IfErr r (λ _. P) → IfErr r (λ _. Q)
err_weaken (Ok x) P Q f h = tt
err_weaken (Err e) P Q f h = f h

-- if memory ran out in a run, the probes observed its steps so far
pub told_short : (bound : ℕ) (old new : Position) (count counted : ℕ) (watches left : List Watch)
    (before after : List (List ℕ)) → BreaksOff bound old new count counted watches left before after
    → IsToldSoFar old.image.code bound old.state watches left
told_short bound old new count counted watches left before after b = inr (record {
  whole = b.whole;
  within = b.within;
  step = step_at b.last;
  counted = ap (map step_at) b.visits
      ∙ map-append step_at (visited old.image.code b.whole old.state) (b.last ∷ []);
  lines = b.lines;
  more = after;
  cut_short = b.cut_short;
})

pub so_far_from : (code : List Cell) (m : State) (start : Position) (bound : ℕ) (before after : List Watch)
    → start.image.code ≡ code → start.state ≡ m → IsToldSoFar start.image.code bound start.state before after
    → IsToldSoFar code bound m before after
so_far_from code m start bound before after e f h =
    subst₂ (λ (c : List Cell) (s : State). IsToldSoFar c bound s before after) e f h

-- the probes of a run from where an image is loaded, if memory runs out
pub loaded_short : (program : Source) (limits : Limits) (input : List FieldWord) (bound : ℕ) (start : Position)
    → IsLoaded program limits input start → IsImage start.image
    → (before after : List Watch) → IsToldSoFar start.image.code bound start.state before after
    → ProfilesShort before after program limits input bound
loaded_short program limits input bound start loads image before after told = record {
  image = start.image;
  is_image = image;
  stands = loads.stands;
  told = subst (λ (m : State). IsToldSoFar start.image.code bound m before after)
      (ap (λ (p : Position). p.state) loads.first) told;
}

module _ (program : Source) (limits : Limits) (input : List FieldWord) (bound : ℕ) (end : Position) (spent : ℕ) where
  pub turns_image : (why : Stop) → HasRun program limits input bound end why spent
      → (before after : List Watch) → after ≡ left_after (back_steps why end.image.code end.state bound) before
      → (p : Planned) → ReportsTurned why program limits input
      (loaded end.image.statics limits input) spent bound p
      → (count middle counted : ℕ) → middle ≡ count + spent → counted ≡ middle + steps_back why spent
      → TurnsImage before after count counted program limits input bound p
  turns_image why has before after told p reports count middle counted once once_back =
      let s = says_turn program limits input bound end spent why p reports in
      record {
        said = s.said;
        middle = middle;
        runs = runs_image program limits input bound end spent why has s.said s.reports count middle once;
        told = subst (λ (e : End). after ≡ left_after (back_steps e.why end.image.code e.last bound) before)
            (sym has.runs) told;
        reported = subst (λ (e : End). p ≡ with_way_back e.why (back_lines e.spent
            (report program (starting program input).store) (length (loaded end.image.statics limits input))) s.said)
            (sym has.runs) s.reported;
        once = subst (λ (e : End). counted ≡ middle + steps_back e.why e.spent) (sym has.runs) once_back;
      }

  -- the steps of the run of the loaded image are those of the image where it ended
  same_steps : (start : Position) → IsLoaded program limits input start → end.image ≡ start.image
      → counted_steps start.image.code bound start.state ≡ run_steps end.image limits input bound
  same_steps start loads same =
      ap (λ (p : Position). counted_steps start.image.code bound p.state) loads.first
      ∙ sym (ap (λ (i : Segments). run_steps i limits input bound) same)

  pub profiles_image : (why : Stop) → HasRun program limits input bound end why spent
      → (start : Position) → IsLoaded program limits input start → end.image ≡ start.image
      → (before after : List Watch) (ended : List (List ℕ))
      → after ≡ left_after (counted_steps start.image.code bound start.state) before
      → ended ≡ lines_after (counted_steps start.image.code bound start.state) before
      → (said p : Planned) → ReportsStop why program limits input spent bound said
      → p ≡ record said { text = (said.text ++ lines_shown ended) ++ lines_shown (map watch_line after) }
      → (count counted : ℕ) → counted ≡ count + spent
      → ProfilesImage before after count counted program limits input bound p
  profiles_image why has start loads same before after ended told lines said p reports is count counted once = record {
    said = said;
    runs = runs_image program limits input bound end spent why has said reports count counted once;
    told = told ∙ ap (λ steps. left_after steps before) (same_steps start loads same);
    reported = is ∙ ap (λ l. record said { text = (said.text ++ lines_shown l) ++ lines_shown (map watch_line after) })
        (lines ∙ ap (λ steps. lines_after steps before) (same_steps start loads same));
  }

  -- memory runs out in the backward run
  pub turns_short : (why : Stop) → HasRun program limits input bound end why spent
      → (before after : List Watch)
      → (why ≡ Finished) × IsToldSoFar (flipped end.image.code) bound
      (started (flipped end.image.code) end.state.regs end.state.cells) before after
      → TurnsShort before after program limits input bound
  turns_short why has before after told = record {
    image = end.image;
    is_image = has.is_image;
    stands = has.stands;
    finished = ap (λ (e : End). e.why) has.runs ∙ told.0;
    told = subst (λ (e : End). IsToldSoFar (flipped end.image.code) bound
        (started (flipped end.image.code) e.last.regs e.last.cells) before after) (sym has.runs) told.1;
  }
