-- The memory of a final state determines its store, and so its report; and so does the memory in
-- which a run begins.
use Rattle.std.proofs.Common.{◌≡◌, ◌∙◌, sym, ap, refl, ℕ, ◌+◌, ◌<◌, ◌≤◌, Bool, true, false, List, [], length, Some}
use Rattle.std.proofs.Common.{arith}
use Rattle.std.proofs.lemmas.Option.{unwrap_or-slice_get}
use Rattle.std.specs.Prelude.{slice_index, is_some}
use Rattle.std.specs.Option.{option_map}
use Rattle.refine_frame.specs.rpp_words.declared.input.FieldWord.{FieldWord}
use Rattle.meaning_reached.specs.rpp_tree.Tree.{Source}
use Rattle.refine_frame.specs.class_rules.Classes.{main_of}
use Rattle.refine_frame.specs.class_rules.Program.{IsAccepted}
use Rattle.refine_frame.specs.buddy_book.Place.{block_of, count_taken}
use Rattle.refine_frame.specs.code_conventions.declared.memory.TheConstants.{COUNT_WORD, HEADER_WORDS}
use Rattle.static_layout.specs.roopl_semantics.Store.{OfClass, State, main_name, object_at}
use Rattle.static_layout.specs.roopl_semantics.Source.{starting}
use Rattle.static_layout.specs.roopl_semantics.Laws.{holders}
use Rattle.static_layout.specs.roopl_semantics.Report.{report, numbered, live_count}
use Rattle.pisa_machine.specs.pisa_isa.Machine.{word_at}
use Rattle.static_layout.proofs.roopl_semantics_laws.Starting.{starts_loaded}
use Rattle.refine_frame.specs.meaning_sound.Sound.{head_of, is_live, Typed, Sound, main_alone}
use Rattle.refine_frame.proofs.meaning_sound_laws.Stores.{live_object}
use Rattle.refine_frame.proofs.meaning_sound_laws.Cells.{typed_of}
use Rattle.refine_frame.proofs.meaning_sound_laws.Objects.{unheld}
use Rattle.refine_frame.proofs.meaning_sound_laws.Plainness.{program_plain}
use Rattle.refine_frame.proofs.meaning_sound_laws.Starting.{starting_sound, end_sound}
use Rattle.refine_frame.specs.Open.{Setup, setup_base, object_address, memory, IsGrounded}
use Rattle.refine_frame.proofs.Memory.{base_above, address_other, read_main, read_part, memory_length, memory_is_layout}
use Rattle.refine_frame.proofs.Tells.{IsReference, name_word, names_tell, read_head, read_count}
use Rattle.refine_frame.proofs.Entering.{setup, starting_grounded, grounded_on}
use Rattle.meaning_reached.proofs.Final.{reached_store, starting_reaches, ends_reached}
use Rattle.store_report.specs.Told.{report_told}
use Rattle.store_report.specs.Memory.{IsMemoryOf, IsFirstMemoryOf}
use Rattle.store_report.proofs.Telling.{IsGood, Facts}
use Rattle.store_report.proofs.Following.{report_is_told}
use Rattle.store_report.proofs.Counting.{few_objects}

word_is : (cells : List ℕ) (a : ℕ) → word_at cells a ≡ slice_index cells a
word_is cells a = unwrap_or-slice_get cells a 0

module _ (u : Setup) (class : ℕ) (st : State) (s : Sound u.setting main_alone [] class st) (g : IsGrounded u st.store)
  where
    abbrev mem : List ℕ
    mem = memory u s.placed.at st.store []

    abbrev t : Typed u.setting main_alone [] class st
    t = typed_of u.setting main_alone [] class st s

    reference_of : (n : ℕ) → IsGood st.store n → IsReference u main_alone [] class st t s.main_unheld n
    reference_of n good = record { live = good.live; no_main = good.no_main }

    other : (n : ℕ) → IsGood st.store n → object_address u s.placed.at.blocks n
        ≡ setup_base u + block_of s.placed.at.blocks n
    other n good = address_other u main_alone [] class st t g n good.no_main

    held_is : (m : ℕ) → 0 < holders m st.store → IsGood st.store m
    held_is m p = record {
      live = by (is_live st.store m) refl;
      no_main = λ e. let z : holders m st.store ≡ holders main_name st.store = ap (λ k. holders k st.store) e in
          let a = s.main_unheld in omega arith;
    }
      where
        by : (b : Bool) → is_live st.store m ≡ b → is_live st.store m ≡ true
        by true e = e
        by false e = absurd (let a = unheld u.setting main_alone [] class st m t e in omega arith)

    main_is_live : is_live st.store main_name ≡ true
    main_is_live = ap is_some g.main

    facts : Facts u.setting.program st.store (setup_base u) s.placed.at.blocks mem
    facts = record {
      apart = λ n m x y e. names_tell u main_alone [] class st t s.main_unheld n m (reference_of n x) (reference_of m y)
          e;
      positive = λ n x. (name_word u main_alone [] class st t s.main_unheld n (reference_of n x)).0;
      head = λ n x. word_is mem (setup_base u + block_of s.placed.at.blocks n) ∙ ap (slice_index mem) (sym (other n x))
          ∙ read_head u main_alone [] class st t s.main_unheld g [] n x.live;
      count = λ n x. word_is mem (setup_base u + block_of s.placed.at.blocks n + COUNT_WORD)
          ∙ ap (λ a. slice_index mem (a + COUNT_WORD)) (sym (other n x))
          ∙ read_count u main_alone [] class st t s.main_unheld g [] n x.live;
      part = λ n i x l. word_is mem (setup_base u + block_of s.placed.at.blocks n + HEADER_WORDS + i)
          ∙ ap (λ a. slice_index mem (a + HEADER_WORDS + i)) (sym (other n x))
          ∙ read_part u main_alone [] class st t g [] n i x.live l;
      main_part = λ i l. word_is mem _ ∙ read_main u main_alone [] class st t g [] i l;
      typed = s.objects;
      main_head = main_head_is;
      main_live = main_is_live;
      held_good = held_is;
    }
      where
        main_head_is : (object_at st.store main_name).head ≡ OfClass (main_of u.setting.program).class
        main_head_is = let x : Some (object_at st.store main_name).head
            ≡ Some (OfClass (main_of u.setting.program).class) =
            sym (ap (option_map head_of) (live_object st.store main_name main_is_live)) ∙ g.main in cc

    small : length st.store ≤ length mem
    small =
        let few = few_objects u.setting st.store st.log s.placed s.fresh in
        let size = memory_length u main_alone [] class st t g [] in
        let base = base_above u in
        omega arith

    -- if every live object is numbered, the memory's report is that of the store
    pub memory_tells : live_count st.store ≡ length (numbered st.store)
        → report_told u.setting.program mem ≡ report u.setting.program st.store
    memory_tells live = report_is_told u.setting.program st.store (setup_base u) s.placed.at.blocks mem facts
        (2 + count_taken st.log) s.fresh small live

-- the report of a memory where a run ended

pub last_told : (program : Source) (cells : List ℕ) (end : State) → IsAccepted program → IsMemoryOf program cells end
    → report_told program cells ≡ report program end.store
last_told program cells end accepted m =
    let u = setup program m.image m.limits m.input m.statics m.in_range m.valid in
    let kept = end_sound program m.limits m.input m.gives.fuel end m.gives.cost accepted
    (program_plain program accepted) m.in_range m.valid m.gives.done in
    let reached = ends_reached program m.limits m.input m.gives.fuel end m.gives.cost accepted m.in_range m.valid
    m.gives.done in
    let first = starting_grounded program m.image m.limits m.input m.statics m.in_range m.valid in
    let g : IsGrounded u end.store = grounded_on u main_alone (starting program m.input) end kept.stays (omega arith)
    first in
    let laid = memory_is_layout u kept.sound.placed.at end.store end.log kept.sound.placed.placed in
    ap (report_told program) (m.laid ∙ sym laid) ∙ memory_tells u (main_of program).class end kept.sound g reached.count

-- the report of a memory where a run begins

pub first_told : (program : Source) (cells : List ℕ) (input : List FieldWord) → IsFirstMemoryOf program cells input
    → report_told program cells ≡ report program (starting program input).store
first_told program cells input m =
    let u = setup program m.image m.limits input m.statics m.in_range m.valid in
    let first = starting program input in
    let sound = starting_sound program m.limits input m.in_range m.valid in
    let g = starting_grounded program m.image m.limits input m.statics m.in_range m.valid in
    let reached = reached_store program m.limits (main_of program).class first sound sound.self_is
    (starting_reaches program input) in
    let laid = memory_is_layout u sound.placed.at first.store first.log sound.placed.placed in
    ap (report_told program) (m.loads ∙ sym (starts_loaded program m.image m.limits input m.statics m.in_range m.valid)
    ∙ sym laid)
    ∙ memory_tells u (main_of program).class first sound g reached.count
