-- The law of inverses for accepted programs whose literals are words.
use Rattle.std.proofs.Common.{◌≡◌, ℕ, ◌+◌, ◌<◌, ◌≤◌, arith, refl, sym, ap, ◌∙◌, true, false, Bool, List, [], length}
use Rattle.std.proofs.Common.{Some, None, nat_eq, eqb-true, if◌then◌else◌}
use Rattle.meaning_reached.specs.rpp_words.declared.input.Limits.{Limits}
use Rattle.meaning_reached.specs.rpp_words.declared.input.FieldWord.{FieldWord}
use Rattle.meaning_reached.specs.rpp_tree.Tree.{Statements, Source}
use Rattle.meaning_reached.specs.class_rules.Program.{IsAccepted}
use Rattle.meaning_reached.specs.roopl_semantics.Run.{Done}
use Rattle.meaning_reached.specs.roopl_semantics.Store.{OfClass, Object, State, main_name, object_named, object_at}
use Rattle.meaning_reached.specs.roopl_semantics.Execution.{Setting, exec}
use Rattle.meaning_reached.specs.rpp_words.Limits.{IsLimits}
use Rattle.meaning_reached.specs.class_rules.Classes.{main_of}
use Rattle.meaning_reached.specs.roopl_semantics.Source.{IsValid, main_body, main_object, source, starting}
use Rattle.meaning_inverse.specs.InverseLaws.{InverseLeadsBack}
use Rattle.meaning_reached.proofs.roopl_semantics_laws.MainPlace.{class_inside}
use Rattle.meaning_reached.specs.meaning_sound.Plain.{ProgramIsPlain}
use Rattle.meaning_reached.proofs.meaning_sound_laws.Accepted.{knows_classes}
use Rattle.meaning_reached.proofs.meaning_sound_laws.Plainness.{program_plain}
use Rattle.meaning_reached.proofs.meaning_sound_laws.Starting.{starting_sound, main_text}
use Rattle.meaning_reached.specs.class_rules.Scope.{Locals}
use Rattle.meaning_reached.specs.class_rules.Table.{table_of}
use Rattle.meaning_reached.specs.class_rules.Statements.{verdict_passed, check_statements}
use Rattle.meaning_reached.specs.class_rules.Program.{setting_in}
use Rattle.meaning_reached.specs.meaning_sound.Sound.{Sound, main_alone}
use Rattle.meaning_reached.specs.meaning_sound.Plain.{IsPlain}
use Rattle.meaning_reached.specs.meaning_sound.Kept.{MeansSame}
use Rattle.meaning_reached.proofs.meaning_sound_laws.Classes.{KnowsClasses}
use Rattle.meaning_inverse.proofs.ElementsKept.{good_after}
use Rattle.meaning_inverse.proofs.Whole.{same_map, sees_itself, sees_agree}
use Rattle.meaning_reached.proofs.SameReports.{same_reports}
use Rattle.meaning_inverse.specs.InverseLaws.{ShowsBack}
use Rattle.meaning_inverse.specs.ArrayLengths.{ArraysHaveElements, is_class_head}
use Rattle.meaning_inverse.proofs.Known.{Context, Checked, Good, drawn_of}
use Rattle.meaning_reached.proofs.roopl_semantics_laws.MoreFuel.{within_done}
use Rattle.meaning_reached.specs.buddy_book.Place.{count_taken}
use Rattle.meaning_reached.proofs.meaning_sound_laws.Stores.{live_object}
use Rattle.meaning_reached.proofs.meaning_sound_laws.Stated.{end_is_sound}
use Rattle.meaning_inverse.proofs.Later.{Later, exec_later}
use Rattle.meaning_inverse.proofs.Grounded.{leads_back_from, undone_from}

-- at the start of a run there is only the main object
pub only_main : (program : Source) (input : List FieldWord) (name : ℕ) (object : Object)
    → object_named (starting program input).store name ≡ Some object
    → (name ≡ main_name) × (object ≡ main_object program input)
only_main program input name object e = by (nat_eq main_name name) refl e
  where
    by : (t : Bool) → nat_eq main_name name ≡ t → (if t then Some (main_object program input) else None) ≡ Some object
        → (name ≡ main_name) × (object ≡ main_object program input)
    by true f h = (sym (eqb-true main_name name f), (let s : main_object program input ≡ object = cc in sym s))
    by false f h = cc

pub elements_at_start : (program : Source) (input : List FieldWord) → ArraysHaveElements (starting program input).store
elements_at_start program input = record {
  long = λ name object e h.
      (let z : true ≡ false = sym (ap (λ o. is_class_head o.head) (only_main program input name object e).1) ∙ h in cc);
}

-- what holds for the end of a run
pub record EndOfRun (program : Source) (limits : Limits) (input : List FieldWord) (end : State) : Type 0 where
  pub live : object_named end.store main_name ≡ Some (object_at end.store main_name)
  pub head : (object_at end.store main_name).head ≡ OfClass (main_of program).class
  pub later : Later (starting program input) end
  pub sound : Sound (record { program = program; limits = limits }) main_alone [] (main_of program).class end

module _ (program : Source) (limits : Limits) (input : List FieldWord) (accepted : IsAccepted program)
    (inside : IsLimits limits) (valid : IsValid program input) where
  abbrev setting : Setting
  setting = record { program = program; limits = limits }

  plain : ProgramIsPlain program
  plain = program_plain program accepted

  -- the position of main's body
  abbrev pub main_context : Context setting
  main_context = record {
    extra = main_alone;
    locals = [];
    shape = [];
    class = (main_of program).class;
    inside = class_inside program accepted;
    means = record { same = λ name. refl };
  }

  pub starting_good : Good setting main_context (starting program input)
  starting_good =
      record {
        sound = starting_sound program limits input inside valid;
        drawn = drawn_of setting main_alone [] (main_of program).class (starting program input)
            (starting_sound program limits input inside valid);
        arrays = elements_at_start program input;
      }

  pub main_checked : Checked setting main_context (main_body program)
  main_checked = let text = main_text program accepted plain in record { passes = text.checked; plain = text.plain }

  -- the end comes later than the start, it is sound, and the main object is live and of the main class
  pub end_of_run : (fuel : ℕ) (end : State) (cost : ℕ) → source program limits input fuel ≡ Done end cost
      → EndOfRun program limits input end
  end_of_run fuel end cost done =
      let begin = starting program input in
      let o = object_at end.store main_name in
      let runs = (within_done fuel (exec setting fuel (main_body program) begin) end cost done).is in
      let later = exec_later setting fuel (main_body program) begin end cost starting_good.drawn runs in
      let sound = (end_is_sound program limits input fuel end cost accepted inside valid done).sound in
      let live = live_object end.store main_name (sound.lives main_name
      (let z : 0 < main_alone main_name = omega arith in z)) in
      let was = later.old main_name o (let z : main_name < 2 + count_taken begin.log = omega arith in z) live in
      record {
        live = live;
        head = was.head ∙ ap (λ b. b.head)
            (only_main program input main_name was.before was.there).1;
        later = later;
        sound = sound;
      }

  pub leads_back : (fuel : ℕ) (end : State) (cost : ℕ) → source program limits input fuel ≡ Done end cost
      → InverseLeadsBack setting (main_body program) (starting program input) end cost
  leads_back fuel end cost e =
      let over = within_done fuel (exec setting fuel (main_body program) (starting program input)) end cost e in
      leads_back_from setting (knows_classes program accepted plain) main_context fuel (main_body program)
      (starting program input) end cost main_checked starting_good over.is

  pub shows_back : (fuel : ℕ) (end : State) (cost : ℕ) → source program limits input fuel ≡ Done end cost
      → ShowsBack setting (main_body program) (starting program input) end cost
  shows_back fuel end cost e =
      let start = starting program input in
      let over = within_done fuel (exec setting fuel (main_body program) start) end cost e in
      let classes = knows_classes program accepted plain in
      let after = good_after setting classes main_context fuel (main_body program) start end cost main_checked
      starting_good over.is in
      let undone = undone_from setting classes main_context fuel (main_body program) start end cost main_checked
      starting_good over.is same_map end (sees_itself limits.heap end after.drawn) in
      let agrees = sees_agree limits.heap undone.names start undone.back undone.sees in
      record {
        leads = record {
          back = undone.back;
          runs = undone.runs.by cost (let z : cost ≤ cost = omega arith in z);
          agrees = agrees;
        };
        shown = sym (same_reports program start.store undone.back.store starting_good.drawn.unique
            undone.sees.sound.unique agrees.stores);
      }

-- a checked block, in a sound state
module _ (program : Source) (limits : Limits) (extra : ℕ → ℕ) (locals shape : Locals) (class : ℕ) (body : Statements)
    (start : State) (accepted : IsAccepted program) (inside : class < length program.classes)
    (means : MeansSame locals shape)
    (passes : check_statements (setting_in program (table_of program) class) locals body ≡ verdict_passed)
    (plain : IsPlain body) (sound : Sound (record { program = program; limits = limits }) extra shape class start)
    (arrays : ArraysHaveElements start.store) where
  abbrev here : Setting
  here = record { program = program; limits = limits }

  abbrev context : Context here
  context = record { extra = extra; locals = locals; shape = shape; class = class; inside = inside; means = means }

  classes : KnowsClasses program
  classes = knows_classes program accepted (program_plain program accepted)

  checked : Checked here context body
  checked = record { passes = passes; plain = plain }

  good : Good here context start
  good = record { sound = sound; drawn = drawn_of here extra shape class start sound; arrays = arrays }

  pub block_undone : (fuel : ℕ) (end : State) (cost : ℕ) → exec here fuel body start ≡ Done end cost
      → InverseLeadsBack here body start end cost
  block_undone fuel end cost e = leads_back_from here classes context fuel body start end cost checked good e

  pub arrays_kept : (fuel : ℕ) (end : State) (cost : ℕ) → exec here fuel body start ≡ Done end cost
      → ArraysHaveElements end.store
  arrays_kept fuel end cost e = (good_after here classes context fuel body start end cost checked good e).arrays
