-- Addresses of a current frame, its class's table, and what is saved in it.
use Rattle.std.proofs.Common.{◌≡◌, ℕ, ◌+◌, ◌*◌, ◌^◌, ◌<◌, ◌≤◌, Bool, true, false, List, [], ◌∷◌, length, refl, sym}
use Rattle.std.proofs.Common.{subst, arith}
use Rattle.std.specs.Prelude.{nat_eq, slice_index, slice_set, not, nat_lt, if◌then◌else◌}
use Rattle.buddy_pisa.specs.rpp_words.declared.input.TheConstants.{FRAME_WORDS, FIXED_CELLS}
use Rattle.method_calls.specs.code_conventions.declared.memory.TheConstants.{HEADER_WORDS, OBJECT_WORD, PLACE_WORD}
use Rattle.buddy_pisa.specs.buddy_book.Place.{Placing, block_of}
use Rattle.method_calls.specs.roopl_semantics.Store.{OfClass, State, main_name}
use Rattle.buddy_pisa.specs.rpp_words.Limits.{IsLimits}
use Rattle.method_calls.specs.roopl_semantics.Execution.{Setting}
use Rattle.buddy_pisa.specs.pisa_isa.Loaded.{statics_at}
use Rattle.buddy_pisa.specs.pisa_isa.declared.image.TheConstants.{MOST_STATICS}
use Rattle.method_calls.proofs.meaning_sound_laws.Stores.{differs}
use Rattle.method_calls.proofs.meaning_sound_laws.Regions.{region_inside}
use Rattle.method_calls.proofs.refine_frame_laws.Memory.{base_above}
use Rattle.method_calls.proofs.refine_frame_laws.Tells.{cells_small}
use Rattle.method_calls.specs.refine_form.Form.{Scope, Moved}
use Rattle.method_calls.specs.Facts.{HasEnd, HasFrameWords}
use Rattle.method_calls.specs.refine_form.Frames.{Under, base, stack_base, address_of, OpenFrame, spare_words}
use Rattle.refine_calls.proofs.FramesFit.{has_end, link_word, place_word, put_opens}
use Rattle.method_calls.specs.refine_form.Stands.{setup, Kept, Stands}
use Rattle.method_calls.specs.Names.{put}
use Rattle.refine_calls.proofs.Bridge.{set_words, same_at, before_long}
use Rattle.refine_calls.proofs.MovesFit.{frame_address, frame_long}
use Rattle.refine_calls.proofs.FactsMoves.{set_apart}
use Rattle.method_calls.specs.refine_form.Worlds.{IsFresh}
use Rattle.refine_calls.proofs.Bridge.{reads_of}

module _ (setting : Setting) (statics : List ℕ) (few : length statics ≤ MOST_STATICS) where
  pub all_small : IsLimits setting.limits → stack_base setting statics + FRAME_WORDS * setting.limits.deep ≤ 2 ^ 23
  all_small l = cells_small (setup setting statics) l few

  module _ (s : Scope) (u : Under) (moved : List Moved) (st : State) (cells : List ℕ)
      (h : Stands setting statics s u moved st cells) where
    pub frame_small : frame_address setting statics u < 2 ^ 23
    frame_small = let a = all_small h.keeps.grounded.limits in let d = h.frame.depth_is in let i = h.frame.in_depth in
        omega (arith, a, d, i)

    -- the object is before the stack
    pub object_low : u.object + HEADER_WORDS ≤ stack_base setting statics
    object_low = subst (λ o. o + HEADER_WORDS ≤ stack_base setting statics) h.frame.stands.1
        (subst (λ (a : Placing). address_of setting statics a u.self + HEADER_WORDS ≤ stack_base setting statics)
        (same_at setting statics s u moved st cells (reads_of h)) (by (nat_eq u.self main_name) refl))
      where
        by : (b : Bool) → nat_eq u.self main_name ≡ b → (if b then statics_at else base setting statics + block_of
            h.keeps.placed.at.blocks u.self) + HEADER_WORDS ≤ stack_base setting statics
        by true e = let q : FIXED_CELLS + length statics ≤ base setting statics = base_above (setup setting statics) in
            let r : HEADER_WORDS ≤ length statics = (let z = h.keeps.grounded.room in omega (arith, z)) in
            omega (arith, q, r)
        by false e = let r = region_inside setting st.store st.log h.keeps.placed u.self (OfClass u.class)
            h.keeps.own_is (differs u.self main_name e) in omega (arith, r)

    pub object_small : u.object < 2 ^ 23
    object_small = let a = all_small h.keeps.grounded.limits in let o = object_low in omega (arith, a, o)

  pub frame_end : (s : Scope) (u : Under) (st : State) (cells : List ℕ) → Stands setting statics s u [] st cells
      → HasEnd cells (frame_address setting statics u) (not (nat_lt (1 + length u.callers) setting.limits.deep))
  frame_end s u st cells h = has_end setting statics s u st cells h.frame
      (let a = all_small h.keeps.grounded.limits in omega (arith, a))

  -- ---- what is saved

  kept_put : (s : Scope) (u : Under) (st : State) (link place : ℕ) → Kept setting statics s u [] st
      → Kept setting statics s (put u link place) [] st
  kept_put s u st link place k = record {
    class_inside = k.class_inside;
    variables = k.variables;
    objects = k.objects;
    arrays = k.arrays;
    lives = k.lives;
    self_is = k.self_is;
    own_is = k.own_is;
    self_held = k.self_held;
    main_extra = k.main_extra;
    main_unheld = k.main_unheld;
    fresh = k.fresh;
    placed = k.placed;
    grounded = k.grounded;
    callers_fit = k.callers_fit;
    callers_held = k.callers_held;
    moved_fit = tt;
  }

  kept_unput : (s : Scope) (u : Under) (st : State) (link place : ℕ) → Kept setting statics s (put u link place) [] st
      → Kept setting statics s u [] st
  kept_unput s u st link place k = record {
    class_inside = k.class_inside;
    variables = k.variables;
    objects = k.objects;
    arrays = k.arrays;
    lives = k.lives;
    self_is = k.self_is;
    own_is = k.own_is;
    self_held = k.self_held;
    main_extra = k.main_extra;
    main_unheld = k.main_unheld;
    fresh = k.fresh;
    placed = k.placed;
    grounded = k.grounded;
    callers_fit = k.callers_fit;
    callers_held = k.callers_held;
    moved_fit = tt;
  }

  words_inside : (s : Scope) (u : Under) (st : State) (cells : List ℕ) (h : Stands setting statics s u [] st cells)
      → frame_address setting statics u + PLACE_WORD < length cells
  words_inside s u st cells h = let l = frame_long setting statics s u [] st cells (reads_of h) in let d =
      h.frame.depth_is in let i = h.frame.in_depth in omega (arith, l, d, i)

  pub saves : (s : Scope) (u : Under) (st : State) (cells : List ℕ) → Stands setting statics s u [] st cells → IsFresh u
      → HasFrameWords cells (frame_address setting statics u) 0 0
  saves s u st cells h f = record {
    words_in = words_inside s u st cells h;
    link_word = link_word setting statics s u [] st cells h.frame 0 (slice_index u.put_by OBJECT_WORD) 0
        spare_words f.is
        (before_long setting statics s u [] st cells (reads_of h));
    place_word = place_word setting statics s u [] st cells h.frame 0 (slice_index u.put_by OBJECT_WORD) 0
        spare_words f.is
        (before_long setting statics s u [] st cells (reads_of h));
  }

  pub puts : (s : Scope) (u : Under) (st : State) (cells : List ℕ) (link place : ℕ)
      → Stands setting statics s u [] st cells → IsFresh u → link < 2 ^ 32 → place < 2 ^ 32
      → Stands setting statics s (put u link place) [] st (slice_set
      (slice_set cells (frame_address setting statics u) link) (frame_address setting statics u + PLACE_WORD) place)
  puts s u st cells link place h f lw pw = record {
    frame = put_opens setting statics s u [] st cells h.frame 0 (slice_index u.put_by OBJECT_WORD) 0 spare_words
        f.is
        (before_long setting statics s u [] st cells (reads_of h)) link place;
    keeps = kept_put s u st link place h.keeps;
    counts = h.counts;
    words = set_words (slice_set cells (frame_address setting statics u) link)
        (frame_address setting statics u + PLACE_WORD)
        place (set_words cells (frame_address setting statics u) link h.words lw) pw;
  }

  pub put_words : (s : Scope) (u : Under) (st : State) (cells : List ℕ) (link place : ℕ)
      → Stands setting statics s (put u link place) [] st cells
      → HasFrameWords cells (frame_address setting statics u) link place
  put_words s u st cells link place h = record {
    words_in = words_inside s (put u link place) st cells h;
    link_word = link_word setting statics s (put u link place) [] st cells h.frame link
        (slice_index u.put_by OBJECT_WORD) place
        spare_words refl (before_long setting statics s (put u link place) [] st cells (reads_of h));
    place_word = place_word setting statics s (put u link place) [] st cells h.frame link
        (slice_index u.put_by OBJECT_WORD) place
        spare_words refl (before_long setting statics s (put u link place) [] st cells (reads_of h));
  }

  pub puts_back : (s : Scope) (u : Under) (st : State) (cells : List ℕ) (link place : ℕ)
      → Stands setting statics s (put u link place) [] st cells → IsFresh u
      → Stands setting statics s u [] st (slice_set (slice_set cells (frame_address setting statics u + PLACE_WORD) 0)
      (frame_address setting statics u) 0)
  puts_back s u st cells link place h f =
      let F = frame_address setting statics u in
      let o : OpenFrame setting statics s (record u {
        put_by = 0 ∷ slice_index u.put_by OBJECT_WORD ∷ 0
            ∷ spare_words;
      }) [] st
      (slice_set (slice_set cells F 0) (F + PLACE_WORD) 0) =
      put_opens setting statics s (put u link place) [] st cells h.frame link (slice_index u.put_by OBJECT_WORD) place
      spare_words refl (before_long setting statics s (put u link place) [] st cells (reads_of h)) 0 0 in
      let c : slice_set (slice_set cells F 0) (F + PLACE_WORD) 0 ≡ slice_set (slice_set cells (F + PLACE_WORD) 0) F 0 =
      set_apart cells F (F + PLACE_WORD) 0 0 (λ e. omega (arith, e)) in
      record {
        frame = subst (OpenFrame setting statics s u [] st) c
            (subst (λ p. OpenFrame setting statics s (record u { put_by = p }) [] st
            (slice_set (slice_set cells F 0) (F + PLACE_WORD) 0)) (sym f.is) o);
        keeps = kept_unput s u st link place h.keeps;
        counts = h.counts;
        words = set_words (slice_set cells (F + PLACE_WORD) 0) F 0
            (set_words cells (F + PLACE_WORD) 0 h.words (omega arith))
            (omega arith);
      }
