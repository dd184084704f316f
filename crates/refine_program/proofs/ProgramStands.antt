-- The code address of a linked image is that of its program, there are no assumptions about its
-- routines, and so it follows the program.
use Rattle.std.proofs.Common.{◌≡◌, ℕ, suc, ◌+◌, ◌<◌, ◌≤◌, ◌^◌, true, List, [], ◌∷◌, length, Some, refl, sym, ap, ◌∙◌}
use Rattle.std.proofs.Common.{subst, arith}
use Rattle.std.specs.Prelude.{slice_get, slice_index}
use Rattle.std.specs.Option.{unwrap_or}
use Rattle.refine_calls.specs.rpp_words.Limits.{IsLimits}
use Rattle.refine_calls.specs.rpp_words.declared.input.FieldWord.{FieldWord}
use Rattle.refine_calls.specs.rpp_words.declared.input.Limits.{Limits}
use Rattle.refine_calls.specs.rpp_tree.declared.tree.Ident.{Ident}
use Rattle.refine_calls.specs.rpp_tree.Tree.{Source}
use Rattle.refine_calls.specs.class_rules.Members.{no_procedure}
use Rattle.refine_calls.specs.class_rules.Classes.{class_slots, main_of}
use Rattle.refine_calls.specs.class_rules.Table.{table_of, slot_in}
use Rattle.refine_calls.specs.class_rules.Inheritance.{is_or_inherits}
use Rattle.refine_calls.proofs.class_rules_laws.FoundMethods.{dispatched_method, own_range}
use Rattle.refine_calls.proofs.class_rules_laws.Numbers.{each_below-get}
use Rattle.refine_calls.proofs.meaning_sound_laws.Starting.{main_there}
use Rattle.refine_calls.specs.pisa_isa.Image.{Segments}
use Rattle.refine_calls.specs.pisa_isa.declared.image.TheConstants.{MOST_STATICS}
use Rattle.refine_calls.specs.paired_code.declared.part.Symbol.{Symbol}
use Rattle.refine_calls.specs.paired_code.Machine.{Image}
use Rattle.refine_calls.specs.paired_code.Layout.{Routine as RoutineAt}
use Rattle.refine_calls.specs.paired_code.Link.{link_positions, first_top, AllPlaced}
use Rattle.static_layout.specs.roopl_semantics.Layout.{HasStatics}
use Rattle.static_layout.specs.roopl_semantics.Source.{IsValid}
use Rattle.static_layout.specs.roopl_semantics.StandsFor.{StandsFor, Follows}
use Rattle.refine_calls.specs.refine_form.Form.{MethodRoutines, AllMethods}
use Rattle.refine_calls.specs.refine_form.Worlds.{Place, world_of}
use Rattle.refine_calls.proofs.refine_form_laws.Stated.{nothing_is_owed}
use Rattle.refine_calls.specs.Laws.{Route, IsLinked, IsRouted, OpensMain}
use Rattle.refine_calls.proofs.Stated.{frames_are_open, main_is_open}
use Rattle.refine_program.specs.Methods.{RoutineEntry, entries, routine_of, routine_in, main_routine, method_place}
use Rattle.refine_program.specs.Methods.{slot_places}
use Rattle.refine_program.specs.Methods.{table_places}
use Rattle.refine_program.specs.Laws.{HasRoutine, IsProgramImage, HasRoutines, method_routines, statement_address}
use Rattle.refine_program.proofs.Entries.{methods_have_routines, found_routine, as_many, code_at}
use Rattle.refine_program.proofs.FewStatics.{statics_are_few}
use Rattle.refine_program.proofs.Tables.{top_of, stands_at, body_behind, place_in, has_statics, slot_word}
use Rattle.refine_program.proofs.RunsFollow.{follows}

as_many_places : (t : ℕ) (bs : List (List Symbol)) → length (link_positions t bs) ≡ length bs
as_many_places t [] = refl
as_many_places t (b ∷ bs) = ap suc (as_many_places (t + 1 + 1 + 1 + length b + 1) bs)

module _ (program : Source) (main allocator : List Symbol) (bodies : List (List Symbol)) (image : Segments)
    (is : IsProgramImage program main allocator bodies image) where
  abbrev all : List (List Symbol)
  all = allocator ∷ bodies

  -- the allocator comes before the methods
  abbrev before : ℕ
  before = 1

  abbrev at : List ℕ
  at = link_positions (first_top main) all

  abbrev im : Image
  im = record { code = image.code; routines = at }

  abbrev tops : ℕ → ℕ
  tops r = top_of (first_top main) all (before + r)

  abbrev routines : MethodRoutines
  routines = method_routines program bodies tops

  many : length all ≡ before + length (entries program)
  many = let m = as_many program (entries program) bodies is.codes in omega (arith, m)

  -- each routine is in the image
  placed : (r : ℕ) → r < length (entries program) → RoutineAt im (before + r) (top_of (first_top main) all (before + r))
      (unwrap_or (slice_get bodies r) [])
  placed r h =
      subst (λ body. RoutineAt im (before + r) (top_of (first_top main) all (before + r)) body)
      (body_behind (allocator ∷ []) bodies r)
      (stands_at im main all is.linked (before + r) (omega (arith, h, many)))

  -- ---- the routine of `main`

  main_has : HasRoutine program (main_of program) (main_there program is.accepted).method
  main_has = methods_have_routines program (main_of program) (main_there program is.accepted).method
      (main_there program is.accepted).there

  some : 0 < length all
  some = let h = main_has.below in omega (arith, h, many)

  short : 1 + length main < 2 ^ 30
  short = let s = (by all is.linked.routines_there some) in s
    where
      by : (bs : List (List Symbol)) → AllPlaced im 0 (first_top main) bs → 0 < length bs → 1 + length main < 2 ^ 30
      by [] h l = absurd (omega arith)
      by (b ∷ bs) h l = let s = h.0.small in omega (arith, s)

  -- ---- the static cells

  abbrev has : HasStatics program image
  has = has_statics program image before at (place_in image.code main all is.linked some) is.statics

  few : length image.statics ≤ MOST_STATICS
  few = let f = statics_are_few program is.accepted before at in let e = ap (length {A = ℕ}) is.statics in
      omega (arith, f, e)

  -- each call goes to the routine of the method that it finds
  route : (own class slot : ℕ) (name : Ident) → is_or_inherits program own class ≡ true → class < length program.classes
      → slot_in (table_of program) class name.text ≡ Some slot
      → Route program has.places routines (routine_in program) own slot name
  route own class slot name above inside h =
      let own_in = own_range program own class above inside in
      let d = dispatched_method program is.accepted own class slot name.text own_in above h in
      let f = found_routine program own class slot name d in
      let here : routine_in program own name ≡ routine_of program d.id = ap (routine_of program) d.id_is in
      let row : unwrap_or (slice_get (table_places program before at) own) [] ≡ slot_places program before at own =
      each_below-get (slot_places program before at) (length program.classes) own [] own_in in
      record {
        below = f.below;
        method_is = sym (ap (λ (e : RoutineEntry). e.method) f.there ∙ f.method_is);
        vars_are = refl;
        class_inside = subst (λ (e : RoutineEntry). e.class < length program.classes) (sym f.there) f.class_inside;
        class_above = ap (λ (e : RoutineEntry). is_or_inherits program own e.class) f.there ∙ f.class_above;
        place_is =
            ap (λ z. slice_index z slot) row ∙ slot_word (method_place program before at) (class_slots program own) slot
            d.low
            ∙ ap (method_place program before at) d.runs_is ∙ ap (λ r. slice_index at (before + r)) (sym here)
            ∙ (placed (routine_in program own name) f.below).listed;
      }

  module _ (limits : Limits) where
    abbrev place : Place
    place = statement_address program image at bodies tops limits

    routed : IsRouted place (routine_in program)
    routed = record {
      image = image;
      has = has;
      statics_are = refl;
      few = few;
      routes = route;
      placed = placed;
      tidy = is.linked.tidy;
      allocator = record {
        top = top_of (first_top main) all 0;
        body = allocator;
        law = is.allocates;
        routine = stands_at im main all is.linked 0 some;
      };
    }

    linked : IsLinked place (routine_in program)
    linked = record { accepted = is.accepted; routed = routed }

    -- every routine has the law of its method
    methods : AllMethods (world_of place)
    methods r h = (code_at program (entries program) bodies is.codes r h).law place (routine_in program) linked refl

    follows_on : (input : List FieldWord) → IsLimits limits → IsValid program input → Follows program image limits input
    follows_on input inside valid =
        let there = main_there program is.accepted in
        let entry = main_has.entry in
        let short_code : length image.code < 2 ^ 32 = (let t = is.linked.tidy.short in omega (arith, t)) in
        let opens : OpensMain place input (main_routine program) =
        main_is_open place image input (main_routine program) is.accepted has refl few short_code inside valid
        main_has.below
        (ap (λ (e : RoutineEntry). e.method.body) entry ∙ sym (ap (λ o. (unwrap_or o no_procedure).body) there.there))
        (ap (λ (e : RoutineEntry). e.method.params) entry ∙ there.no_params)
        (ap (λ (e : RoutineEntry). e.class) entry) in
        follows program image at main all is.linked short limits input
        (is.main_code.law place (routine_in program) input (frames_are_open place (routine_in program) linked)
        opens.facts (ap (λ r. before + r) opens.routine_is) methods)

  pub routines_there : HasRoutines program image at
  routines_there = record {
    no_more = as_many_places (first_top main) all ∙ many;
    bodies = bodies;
    tops = tops;
    linked = routed;
    owed = λ limits fuel. nothing_is_owed (place limits) (methods limits) fuel;
  }

  pub stands : StandsFor program image
  stands = record { statics = has; follows = λ limits input inside valid. follows_on limits input inside valid }
