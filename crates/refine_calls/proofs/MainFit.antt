-- What main needs of its current frame.
use Rattle.std.proofs.Common.{◌≡◌, ℕ, zero, suc, ◌+◌, ◌-◌, ◌*◌, ◌^◌, ◌<◌, ◌≤◌, Bool, true, false, Some, None, List, []}
use Rattle.std.proofs.Common.{◌∷◌, ◌++◌, length, map, refl, sym, ap, ◌∙◌, subst, arith}
use Rattle.std.specs.Prelude.{replicate, slice_index, slice_set, nat_eq, if◌then◌else◌}
use Rattle.std.specs.Option.{option_map}
use Rattle.std.specs.List.{All}
use Rattle.buddy_pisa.specs.rpp_words.declared.input.TheConstants.{FRAME_WORDS, FIXED_CELLS}
use Rattle.method_calls.specs.code_conventions.declared.memory.TheConstants.{FIRST_VARIABLE, HEADER_WORDS}
use Rattle.buddy_pisa.specs.rpp_words.Words.{IsWord}
use Rattle.method_calls.proofs.refine_frame_laws.Tells.{cells_small}
use Rattle.refine_calls.proofs.Bridge.{set_words}
use Rattle.buddy_pisa.specs.rpp_words.declared.input.FieldWord.{FieldWord}
use Rattle.buddy_pisa.specs.rpp_words.declared.input.Limits.{Limits}
use Rattle.method_calls.specs.rpp_tree.declared.tree.Var.{Var}
use Rattle.method_calls.specs.rpp_tree.Tree.{Source}
use Rattle.buddy_pisa.specs.buddy_book.Book.{start}
use Rattle.buddy_pisa.specs.pisa_isa.Image.{Segments}
use Rattle.buddy_pisa.specs.pisa_isa.Loaded.{loaded, statics_at, heap_base, fixed_cells, empty_heads, with_words}
use Rattle.buddy_pisa.specs.pisa_isa.declared.image.TheConstants.{MOST_STATICS}
use Rattle.method_calls.specs.roopl_semantics.Store.{Head, OfClass, Binding, main_name}
use Rattle.buddy_pisa.specs.rpp_words.Limits.{IsLimits}
use Rattle.method_calls.specs.roopl_semantics.Source.{IsValid, main_body, main_object, starting}
use Rattle.method_calls.specs.class_rules.Classes.{main_of}
use Rattle.method_calls.specs.roopl_semantics.Layout.{HasStatics}
use Rattle.method_calls.specs.roopl_semantics.Execution.{Setting}
use Rattle.method_calls.proofs.meaning_sound_laws.Starting.{starting_sound}
use Rattle.method_calls.proofs.roopl_semantics_laws.Starting.{starts_loaded}
use Rattle.method_calls.proofs.refine_frame_laws.Entering.{starting_grounded}
use Rattle.method_calls.specs.refine_form.Form.{Scope}
use Rattle.method_calls.specs.Facts.{MainFacts}
use Rattle.method_calls.specs.refine_form.Frames.{Under, stack_words, before_stack, filled_to}
use Rattle.refine_calls.proofs.FramesFit.{fill_more, base_is, ends}
use Rattle.method_calls.specs.refine_form.Stands.{Stands}
use Rattle.refine_calls.proofs.MovesFit.{frame_long}
use Rattle.refine_calls.proofs.FramePlaces.{all_small}
use Rattle.method_calls.specs.class_rules.Program.{IsAccepted}
use Rattle.method_calls.proofs.roopl_semantics_laws.MainPlace.{class_inside}
use Rattle.buddy_pisa.specs.buddy_book.Place.{Placing}
use Rattle.method_calls.specs.class_rules.Inheritance.{is_or_inherits}
use Rattle.method_calls.specs.meaning_sound.Sound.{AllFit, local_type, head_of, head_named}
use Rattle.method_calls.proofs.refine_frame_laws.Memory.{base_above}
use Rattle.method_calls.specs.refine_form.Frames.{base}
use Rattle.method_calls.specs.refine_form.Stands.{local_of, setup, HasElements}
use Rattle.method_calls.specs.refine_form.Worlds.{Place, world_of}
use Rattle.refine_calls.specs.Laws.{OpensMain}
use Rattle.refine_calls.proofs.Bridge.{reads_of}

-- ---- every cell of the loaded memory is a word

pub record AllWords (xs : List ℕ) : Type 0 where
  pub each : (a : ℕ) → slice_index xs a < 2 ^ 32

pub words_append : (xs ys : List ℕ) → AllWords xs → AllWords ys → AllWords (xs ++ ys)
words_append xs ys h g = record { each = by xs h.each }
  where
    by : (xs : List ℕ) → ((a : ℕ) → slice_index xs a < 2 ^ 32) → (a : ℕ) → slice_index (xs ++ ys) a < 2 ^ 32
    by [] h a = g.each a
    by (x ∷ xs) h zero = h zero
    by (x ∷ xs) h (suc a) = by xs (λ i. h (suc i)) a

pub words_cons : (x : ℕ) (xs : List ℕ) → x < 2 ^ 32 → AllWords xs → AllWords (x ∷ xs)
words_cons x xs h g = record { each = by }
  where
    by : (a : ℕ) → slice_index (x ∷ xs) a < 2 ^ 32
    by zero = h
    by (suc a) = g.each a

pub no_words : AllWords []
no_words = record { each = λ a. omega arith }

pub zero_words : (n : ℕ) → AllWords (replicate n 0)
zero_words zero = no_words
zero_words (suc n) = words_cons 0 (replicate n 0) (omega arith) (zero_words n)

input_words : (input : List FieldWord) (statics : List ℕ) → All (λ (entry : FieldWord). IsWord entry.word) input
    → AllWords statics → AllWords (with_words input statics)
input_words [] statics h g = g
input_words (entry ∷ input) statics h g = input_words input (slice_set statics (HEADER_WORDS + entry.field) entry.word)
    (λ k d l. h (suc k) d (omega arith)) (record {
      each = set_words statics (HEADER_WORDS + entry.field) entry.word g.each
          (h 0 entry (omega arith));
    })

pub words : (statics : List ℕ) (limits : Limits) (input : List FieldWord) → IsLimits limits
    → length statics ≤ MOST_STATICS
    → All (λ (entry : FieldWord). IsWord entry.word) input → AllWords statics → AllWords (loaded statics limits input)
words statics limits input inside few h g =
    let base = heap_base limits.heap (length statics) in
    let most : base + 2 ^ limits.heap + FRAME_WORDS * limits.deep ≤ 2 ^ 23 =
    cells_small (record {
      setting = record { program = record { classes = [] }; limits = limits };
      statics = statics;
    }) inside few in
    let heap = inside.heap_to in
    let heads = empty_heads limits.heap base in
    let heads_words = words_append (replicate (limits.heap - 1) 0) (base ∷ []) (zero_words (limits.heap - 1))
    (words_cons base [] (omega (arith, most)) no_words) in
    let tail = words_append heads (replicate (31 - length heads) 0) heads_words (zero_words (31 - length heads)) in
    let z : 0 < 2 ^ 32 = omega arith in
    let fixed : AllWords (fixed_cells limits.heap limits.deep base heads) =
    words_cons 0 _ z (words_cons limits.heap _ (omega (arith, heap))
    (words_cons base _ (omega (arith, most)) (words_cons (base + 2 ^ limits.heap) _ (omega (arith, most))
    (words_cons (base + 2 ^ limits.heap + FRAME_WORDS * limits.deep) _ (omega (arith, most))
    (words_cons 0 _ z (words_cons 0 _ z (words_cons 0 _ z (words_cons 0 _ z tail)))))))) in
    words_append _ (replicate (FRAME_WORDS * limits.deep) 0)
    (words_append _ (replicate (2 ^ limits.heap) 0)
    (words_append _ (replicate (base - statics_at - length statics) 0)
    (words_append (fixed_cells limits.heap limits.deep base heads) (with_words input statics) fixed
    (input_words input statics h g))
    (zero_words (base - statics_at - length statics)))
    (zero_words (2 ^ limits.heap)))
    (zero_words (FRAME_WORDS * limits.deep))

pub no_frame : (frame : List Binding) → map (λ (b : Binding). b.name) frame ≡ [] → frame ≡ []
no_frame [] e = refl
no_frame (b ∷ frame) e = absurd (cc)

-- before a run there is no array
main_only : (program : Source) (input : List FieldWord) (name : ℕ) (head : Head)
    → head_named (starting program input).store name ≡ Some head → HasElements head
main_only program input name head named = by (nat_eq main_name name) named
  where
    by : (b : Bool) → option_map head_of (if b then Some (main_object program input) else None) ≡ Some head
        → HasElements head
    by true e = subst HasElements (let q : OfClass (main_of program).class ≡ head = cc in q) tt
    by false e = absurd (cc)

-- the main frame
abbrev pub first_frame : Source → Under
first_frame program = record {
  callers = [];
  self = main_name;
  class = (main_of program).class;
  object = statics_at;
  put_by = replicate FIRST_VARIABLE 0;
}

module _ (program : Source) (limits : Limits) (image : Segments) (has : HasStatics program image)
    (few : length image.statics ≤ MOST_STATICS) (inside : IsLimits limits) (input : List FieldWord)
    (valid : IsValid program input) (statics_words : AllWords image.statics) where
  abbrev pub setting : Setting
  setting = record { program = program; limits = limits }

  abbrev N : ℕ
  N = FRAME_WORDS * limits.deep

  module _ (s : Scope) (no_vars : s.vars ≡ []) (class_is : s.class ≡ (main_of program).class)
      (class_in : (main_of program).class < length program.classes) where
    zeros_are : (at : Placing) → filled_to setting image.statics N
        (stack_words setting image.statics at (first_frame program) [] []) ≡ replicate N 0
    zeros_are at = let z : FRAME_WORDS ≤ N = (let d = inside.deep_from in omega (arith, d)) in
        fill_more N [] FRAME_WORDS z
        ∙ (let y : N - 0 ≡ N = omega arith in ap (λ j. replicate j 0) y)

    pub begins : Stands setting image.statics s (first_frame program) [] (starting program input)
        (loaded image.statics limits input)
    begins =
        let sound = starting_sound program limits input inside valid in
        let st = starting program input in
        record {
          frame = record {
            at = record { book = start limits.heap; blocks = [] };
            placed = refl;
            cells_are =
                sym (starts_loaded program image limits input has inside valid)
                ∙ ap (λ z. before_stack setting image.statics (record { book = start limits.heap; blocks = [] })
                st.store ++ z) (sym (zeros_are (record { book = start limits.heap; blocks = [] })));
            names_are = ap (map (λ (v : Var). v.name.text)) (sym no_vars);
            self_is = refl;
            stands = (refl, refl);
            callers_stand = tt;
            depth_is = refl;
            in_depth = inside.deep_from;
            put_long = refl;
            few = omega arith;
            few_vals = omega arith;
            above_fits = tt;
          };
          keeps = record {
            class_inside = subst (λ c. c < length program.classes) (sym class_is) class_in;
            variables = subst (λ vs. AllFit program (starting program input).store
                (map local_type (map (local_of program) vs)) []) (sym no_vars) tt;
            objects = sound.objects;
            arrays = main_only program input;
            lives = λ m p. sound.lives m (omega (arith, p));
            self_is = ap (is_or_inherits program (main_of program).class) class_is ∙ sound.self_is;
            own_is = refl;
            self_held = omega arith;
            main_extra = omega arith;
            main_unheld = sound.main_unheld;
            fresh = sound.fresh;
            placed = sound.placed;
            grounded = starting_grounded program image limits input has inside valid;
            callers_fit = tt;
            callers_held = tt;
            moved_fit = tt;
          };
          counts = λ m c q. (let a = sound.counts m c q in omega (arith, a));
          words = (words image.statics limits input inside few valid.words statics_words).each;
        }

module _ (place : Place) (image : Segments) (input : List FieldWord) (main : ℕ)
    (accepted : IsAccepted place.setting.program) (has : HasStatics place.setting.program image)
    (same : place.statics ≡ image.statics) (few : length place.statics ≤ MOST_STATICS)
    (inside : IsLimits place.setting.limits) (valid : IsValid place.setting.program input)
    (statics_words : AllWords image.statics) where
  few_of_image : length image.statics ≤ MOST_STATICS
  few_of_image = subst (λ z. length z ≤ MOST_STATICS) same few

  pub main_opens : main < place.routines.count → (place.routines.method main).body ≡ main_body place.setting.program
      → (place.routines.scope main).vars ≡ [] → (place.routines.scope main).class
      ≡ (main_of place.setting.program).class → OpensMain place input main
  main_opens below body_is no_vars class_is = record {
    facts = record {
      main = main;
      is_routine = below;
      is_main = body_is;
      first = first_frame place.setting.program;
      fresh = record { is = refl };
      object_is = refl;
      frame_small = (let a = all_small place.setting place.statics few inside in let d = inside.deep_from in
          omega (arith, a, d));
      starts = subst (λ z. Stands place.setting z (place.routines.scope main) (first_frame place.setting.program) []
          (starting place.setting.program input) (loaded z place.setting.limits input)) (sym same)
          (begins place.setting.program place.setting.limits image has few_of_image inside input valid statics_words
          (place.routines.scope main) no_vars class_is (class_inside place.setting.program accepted));
      base_in = λ st cells h. (let l = frame_long place.setting place.statics (place.routines.scope main)
          (first_frame place.setting.program) [] st cells (reads_of h) in
          let b : FIXED_CELLS + length place.statics ≤ base place.setting place.statics = base_above
          (setup place.setting place.statics) in omega (arith, l, b));
      base_is = λ st cells h. base_is place.setting place.statics (place.routines.scope main)
          (first_frame place.setting.program) [] st cells h.frame refl;
      ends = λ st cells h. ends place.setting place.statics (place.routines.scope main) st cells main_name
          (main_of place.setting.program).class statics_at h.frame
          (no_frame st.frame (h.frame.names_are ∙ ap (map (λ (v : Var). v.name.text)) no_vars)) inside.deep_from;
    };
    routine_is = refl;
  }
