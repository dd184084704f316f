-- The inverse program undoes a run that ended in a state with which a run can begin.
use Rattle.std.proofs.Common.{◌≡◌, ◌≢◌, ℕ, zero, suc, ◌-◌, ◌≤◌, refl, sym, ap, ◌∙◌, arith, true, false, Bool, List, []}
use Rattle.std.proofs.Common.{◌∷◌, ◌++◌, length, map, Option, Some, None, slice_set, nat_eq, if◌then◌else◌, eqb-true}
use Rattle.std.proofs.lemmas.Bool.{le-leb}
use Rattle.std.specs.Prelude.{codes}
use Rattle.std.specs.Fmt.{decimal}
use Rattle.meaning_reached.specs.rpp_words.Limits.{IsLimits}
use Rattle.meaning_reached.specs.rpp_words.declared.input.FieldWord.{FieldWord}
use Rattle.meaning_reached.specs.rpp_words.declared.input.Limits.{Limits}
use Rattle.meaning_reached.specs.rpp_tree.declared.tree.Var.{Var}
use Rattle.meaning_reached.specs.rpp_tree.declared.tree.VarType.{VarType}
use Rattle.meaning_reached.specs.rpp_tree.Tree.{Procedure, ClassText, Source}
use Rattle.meaning_reached.specs.class_rules.Program.{IsAccepted}
use Rattle.meaning_reached.specs.class_rules.declared.method.MethodId.{MethodId}
use Rattle.meaning_reached.specs.class_rules.Classes.{class_fields, procedure_at, main_of}
use Rattle.meaning_reached.specs.inverse_rules.Inverse.{inverse_as, inverse_program}
use Rattle.meaning_reached.specs.roopl_semantics.Run.{Done, More}
use Rattle.meaning_reached.specs.roopl_semantics.Store.{Value, Word, Nil, Name, Head, OfClass, OfInts, OfObjects}
use Rattle.meaning_reached.specs.roopl_semantics.Store.{Object, Store, Binding, State, main_name, zero_value}
use Rattle.meaning_reached.specs.roopl_semantics.Store.{zero_values, object_named, object_at}
use Rattle.meaning_reached.specs.roopl_semantics.Execution.{Setting, exec}
use Rattle.meaning_reached.specs.roopl_semantics.Source.{IsValid, main_fields, main_body, with_input, main_object}
use Rattle.meaning_reached.specs.roopl_semantics.Source.{starting, within, source}
use Rattle.meaning_inverse.specs.StatesAgree.{renamed_binding}
use Rattle.meaning_reached.specs.roopl_semantics.Report.{newly_met, walked, numbered, field_lines, head_shown}
use Rattle.meaning_reached.specs.roopl_semantics.Report.{cell_lines, object_lines, number_shown, live_line, live_count}
use Rattle.meaning_reached.specs.roopl_semantics.Report.{report, head_line, object_text}
use Rattle.meaning_reached.proofs.roopl_semantics_laws.MoreFuel.{within_done}
use Rattle.meaning_reached.proofs.meaning_sound_laws.Accepted.{knows_classes}
use Rattle.meaning_reached.proofs.meaning_sound_laws.Plainness.{program_plain}
use Rattle.meaning_reached.proofs.meaning_sound_laws.Stated.{counts_are_held}
use Rattle.meaning_reached.specs.Ending.{IsStoreReached}
use Rattle.meaning_reached.proofs.Final.{ends_reached}
use Rattle.meaning_reached.proofs.SameReports.{same_reports}
use Rattle.meaning_inverse.specs.InversePrograms.{MainLeadsBack, BeginsAnew, RunsBack}
use Rattle.meaning_inverse.proofs.Later.{IsSound}
use Rattle.meaning_inverse.proofs.Seen.{Sees}
use Rattle.meaning_inverse.proofs.Whole.{same_map, same_object, sees_agree}
use Rattle.meaning_inverse.proofs.Grounded.{undone_from}
use Rattle.meaning_inverse.proofs.Law.{EndOfRun, end_of_run, only_main, main_context, starting_good, main_checked}
use Rattle.meaning_inverse.proofs.Law.{leads_back}
use Rattle.meaning_inverse.proofs.SameTable.{class_kept, fields_kept, main_kept, procedure_kept}
use Rattle.meaning_inverse.proofs.Turned.{turned_inverse}
use Rattle.meaning_inverse.proofs.SameRuns.{runs_turned}
use Rattle.meaning_reached.specs.rpp_tree.declared.tree.VarType.TheVariants as kind

-- ---- the start of the inverse program is that of the program

module _ (program : Source) where
  abbrev other : Source
  other = inverse_program program

  pub body_kept : main_body other ≡ inverse_as false (main_body program)
  body_kept = ap (λ (id : MethodId). (procedure_at other id).body) (main_kept program)
      ∙ ap (λ (p : Procedure). p.body) (procedure_kept program (main_of program))

  main_fields_kept : main_fields other ≡ main_fields program
  main_fields_kept = ap (λ (id : MethodId). class_fields other id.class) (main_kept program)
      ∙ fields_kept program (main_of program).class

  object_kept : (input : List FieldWord) → main_object other input ≡ main_object program input
  object_kept input =
      ap (λ (id : MethodId). record {
        head = OfClass id.class;
        count = 1;
        cells = with_input input (zero_values (main_fields other));
      }) (main_kept program)
      ∙ ap (λ vars. record {
        head = OfClass (main_of program).class;
        count = 1;
        cells = with_input input (zero_values vars);
      }) main_fields_kept

  start_kept : (input : List FieldWord) → starting other input ≡ starting program input
  start_kept input = ap (λ o. record { frame = []; self = main_name; depth = 1; store = (main_name, o) ∷ []; log = [] })
      (object_kept input)

  -- ---- a store has one report in both programs

  head_kept : (head : Head) → head_shown other head ≡ head_shown program head
  head_kept (OfClass class) = ap (λ (c : ClassText). c.name.text) (class_kept program class)
  head_kept (OfInts n) = refl
  head_kept (OfObjects class n) = ap (λ (c : ClassText). c.name.text ++ codes "[" ++ decimal n ++ codes "]")
      (class_kept program class)

  cells_kept : (names : List ℕ) (head : Head) (cells : List Value)
      → cell_lines other names head cells ≡ cell_lines program names head cells
  cells_kept names (OfClass class) cells = ap (λ vars. field_lines (codes "  ") names vars cells)
      (fields_kept program class)
  cells_kept names (OfInts n) cells = refl
  cells_kept names (OfObjects class n) cells = refl

  lines_kept : (store : Store) (names rest : List ℕ) → object_lines other store names rest
      ≡ object_lines program store names rest
  lines_kept store names [] = refl
  lines_kept store names (n ∷ rest) =
      let o = object_at store n in
      ap (λ t. head_line (number_shown names n) t o.count
      ++ cell_lines other names o.head o.cells ++ object_lines other store names rest) (head_kept o.head)
      ∙ ap (λ t. head_line (number_shown names n) (head_shown program o.head) o.count
      ++ t ++ object_lines other store names rest) (cells_kept names o.head o.cells)
      ∙ ap (λ t. object_text program names n o ++ t) (lines_kept store names rest)

  pub report_kept : (store : Store) → report other store ≡ report program store
  report_kept store =
      let names = numbered store in
      let main = (object_at store main_name).cells in
      ap (λ vars. field_lines [] names vars main ++ object_lines other store names names
      ++ live_line (live_count store)) main_fields_kept
      ∙ ap (λ t. field_lines [] names (main_fields program) main ++ t ++ live_line (live_count store))
      (lines_kept store names names)

-- ---- fields of an input name no object

abbrev AreWords : List Value → Type 0
AreWords [] = Unit {0}
AreWords (Word w ∷ cells) = AreWords cells
AreWords (Nil ∷ cells) = AreWords cells
AreWords (Name n ∷ cells) = ⊥

words_set : (cells : List Value) (i w : ℕ) → AreWords cells → AreWords (slice_set cells i (Word w))
words_set [] i w h = tt
words_set (Word v ∷ cells) zero w h = h
words_set (Nil ∷ cells) zero w h = h
words_set (Name n ∷ cells) zero w h = absurd h
words_set (Word v ∷ cells) (suc i) w h = words_set cells i w h
words_set (Nil ∷ cells) (suc i) w h = words_set cells i w h
words_set (Name n ∷ cells) (suc i) w h = absurd h

words_input : (input : List FieldWord) (cells : List Value) → AreWords cells → AreWords (with_input input cells)
words_input [] cells h = h
words_input (entry ∷ input) cells h = words_input input (slice_set cells entry.field (Word entry.word))
    (words_set cells entry.field entry.word h)

words_first : (type : VarType) (cells : List Value) → AreWords cells → AreWords (zero_value type ∷ cells)
words_first kind.Int cells h = h
words_first (kind.Class class) cells h = h
words_first kind.IntArray cells h = h
words_first (kind.ClassArray class) cells h = h

words_zero : (vars : List Var) → AreWords (zero_values vars)
words_zero [] = tt
words_zero (var ∷ vars) = words_first var.kind (zero_values vars) (words_zero vars)

none_met : (met : List ℕ) (cells : List Value) → AreWords cells → newly_met met cells ≡ []
none_met met [] h = refl
none_met met (Word w ∷ cells) h = none_met met cells h
none_met met (Nil ∷ cells) h = none_met met cells h
none_met met (Name n ∷ cells) h = absurd h

none_walked : (steps : ℕ) (store : Store) → walked steps store [] [] ≡ []
none_walked zero store = refl
none_walked (suc steps) store = refl

-- ---- if nothing has an object id, there is only the main object

record IsAlone (store : Store) : Type 0 where
  pub object : Object
  pub is : store ≡ (main_name, object) ∷ []

alone : (store : Store) → (length store - 1) ≡ 0 → (main : Option Object) → object_named store main_name ≡ main
    → main ≢ None → IsAlone store
alone [] e main h some = absurd (some (sym h))
alone ((k, o) ∷ []) e main h some = by (nat_eq k main_name) refl h
  where
    by : (t : Bool) → nat_eq k main_name ≡ t → (if t then Some o else None) ≡ main → IsAlone ((k, o) ∷ [])
    by true f q = record { object = o; is = ap (λ n. (n, o) ∷ []) (eqb-true k main_name f) }
    by false f q = absurd (some (sym q))
alone ((k, o) ∷ (l ∷ store)) e main h some = absurd (omega arith)

no_frame : (frame : List Binding) → map (λ (b : Binding). b.name) frame ≡ [] → frame ≡ []
no_frame [] h = refl
no_frame (b ∷ frame) h = absurd (cc)

module _ (program : Source) (limits : Limits) (input final : List FieldWord) (accepted : IsAccepted program)
    (inside : IsLimits limits) (valid : IsValid program input) (fuel : ℕ) (end : State) (cost : ℕ)
    (done : source program limits input fuel ≡ Done end cost) (anew : BeginsAnew program limits end final) where
  abbrev here : Setting
  here = record { program = program; limits = limits }

  abbrev begin : State
  begin = starting program input

  abbrev again : State
  again = starting program final

  known : EndOfRun program limits input end
  known = end_of_run program limits input accepted inside valid fuel end cost done

  reached : IsStoreReached program end.store
  reached = ends_reached program limits input fuel end cost accepted inside valid done

  none_numbered : numbered end.store ≡ []
  none_numbered =
      let none : newly_met [] (object_at end.store main_name).cells ≡ [] =
      ap (newly_met []) anew.fields ∙ none_met [] (main_object program final).cells
      (words_input final (zero_values (main_fields program)) (words_zero (main_fields program))) in
      ap (λ first. walked (length end.store) end.store first first) none ∙ none_walked (length end.store) end.store

  only : IsAlone end.store
  only = alone end.store (reached.count ∙ ap length none_numbered) (Some (object_at end.store main_name)) known.live
      (λ h. let z : Some (object_at end.store main_name) ≡ None = h in cc)

  object_is : object_at end.store main_name ≡ main_object program final
  object_is =
      let o = object_at end.store main_name in
      let count : o.count ≡ 1 = (counts_are_held program limits input fuel end cost accepted inside valid done).main o
      known.live in
      ap (λ x. record { head = x; count = o.count; cells = o.cells }) known.head
      ∙ ap (λ x. record { head = OfClass (main_of program).class; count = x; cells = o.cells }) count
      ∙ ap (λ x. record { head = OfClass (main_of program).class; count = 1; cells = x }) anew.fields

  store_is : end.store ≡ again.store
  store_is =
      let same : object_at end.store main_name ≡ only.object = ap (λ s. object_at s main_name) only.is in
      only.is ∙ ap (λ o. (main_name, o) ∷ []) (sym same ∙ object_is)

  only_named : (n : ℕ) (o : Object) → object_named again.store n ≡ Some o → n ≡ main_name
  only_named n o h = (only_main program final n o h).0

  again_drawn : IsSound again
  again_drawn =
      record {
        unique = (refl, tt);
        drawn = λ n o h. let e = only_named n o h in omega arith;
        positive = λ n o h. let e = only_named n o h in omega arith;
      }

  sees : Sees limits.heap same_map end again
  unfolding same_map
  sees =
      record {
        frame = ap (map (renamed_binding (λ n. n))) (sym (no_frame end.frame known.later.names));
        self = sym known.later.self;
        depth = sym known.later.depth;
        objects = λ n. ap (λ s. object_named s n) (sym store_is) ∙ sym (same_object (object_named end.store n));
        book = sym anew.free;
        blocks = λ n o h no_main. absurd (no_main (only_named n o (ap (λ s. object_named s n) (sym store_is) ∙ h)));
        sound = again_drawn;
      }

  pub runs_back : RunsBack program limits begin final cost
  runs_back =
      let good = starting_good program limits input accepted inside valid in
      let undone =
      undone_from here (knows_classes program accepted (program_plain program accepted))
      (main_context program limits input accepted inside valid) fuel (main_body program) begin end cost
      (main_checked program limits input accepted inside valid) good
      (within_done fuel (exec here fuel (main_body program) begin) end cost done).is same_map again sees in
      let agrees = sees_agree limits.heap undone.names begin undone.back undone.sees in
      let there : Setting = record { program = inverse_program program; limits = limits } in
      let body = inverse_as false (main_body program) in
      let enough : cost ≤ cost = omega arith in
      record {
        back = undone.back;
        runs =
            ap (λ b. within cost (exec there cost b (starting (inverse_program program) final))) (body_kept program)
            ∙ ap (λ s. within cost (exec there cost body s)) (start_kept program final)
            ∙ ap (within cost) (runs_turned program limits cost body again
            ∙ ap (λ b. exec here cost b again) (turned_inverse (main_body program)) ∙ undone.runs.by cost enough)
            ∙ ap (λ t. if t then Done undone.back cost else More) (le-leb cost cost enough);
        agrees = agrees;
        shown = report_kept program undone.back.store ∙ sym
            (same_reports program begin.store undone.back.store good.drawn.unique undone.sees.sound.unique
            agrees.stores);
      }

-- so does its main method from the end of the run itself
pub main_back : (program : Source) (limits : Limits) (input : List FieldWord) (fuel : ℕ) (end : State) (cost : ℕ)
    → IsAccepted program → IsLimits limits → IsValid program input → source program limits input fuel ≡ Done end cost
    → MainLeadsBack program limits (starting program input) end cost
main_back program limits input fuel end cost accepted inside valid done =
    let back = leads_back program limits input accepted inside valid fuel end cost done in
    let here : Setting = record { program = program; limits = limits } in
    let there : Setting = record { program = inverse_program program; limits = limits } in
    record {
      back = back.back;
      runs =
          ap (λ b. exec there cost b end) (body_kept program)
          ∙ runs_turned program limits cost (inverse_as false (main_body program)) end
          ∙ ap (λ b. exec here cost b end) (turned_inverse (main_body program))
          ∙ back.runs;
      agrees = back.agrees;
    }
