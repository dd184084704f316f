-- A current frame after a copy or its inverse: a reference is written, and a count follows.
use Rattle.std.proofs.Common.{◌≡◌, ℕ, suc, ◌+◌, ◌-◌, ◌^◌, ◌<◌, true, false, List, [], Some, refl, sym, ap, ◌∙◌, subst}
use Rattle.std.proofs.Common.{arith}
use Rattle.std.specs.Prelude.{slice_set, is_some, not}
use Rattle.std.specs.Option.{option_map}
use Rattle.object_codegen.specs.class_rules.declared.kind.Kind.{Kind}
use Rattle.object_codegen.specs.class_rules.declared.kind.Kind.TheVariants as kind
use Rattle.object_codegen.specs.class_rules.Expressions.{is_int}
use Rattle.object_codegen.specs.buddy_book.Place.{Placing, place}
use Rattle.object_codegen.specs.roopl_semantics.Store.{Value, Nil, Name, State, main_name, object_at}
use Rattle.object_codegen.specs.roopl_semantics.Value.{Cell, Slot, Part, read, written}
use Rattle.object_codegen.specs.roopl_semantics.Laws.{one_if_name}
use Rattle.object_codegen.specs.roopl_semantics.Execution.{Setting, count_changed, one_less}
use Rattle.object_codegen.specs.meaning_sound.Sound.{count_of, head_named, named_fits, is_live, is_of_kind, cell_kind, Sound}
use Rattle.object_codegen.proofs.meaning_sound_laws.Cells.{sound_of, heads_written, counts_written}
use Rattle.object_codegen.proofs.meaning_sound_laws.Removal.{other_one, counted_heads, copy_keeps, uncopy_keeps}
use Rattle.object_codegen.proofs.meaning_sound_laws.Stores.{live_object}
use Rattle.object_codegen.specs.refine_frame.Open as open_frame
use Rattle.object_codegen.proofs.refine_frame_laws.Memory.{write_count}
use Rattle.object_codegen.specs.refine_form.Form.{Scope}
use Rattle.object_codegen.specs.refine_form.Frames.{Under, address_of, value_word, stack_words, memory, OpenFrame}
use Rattle.object_codegen.specs.refine_form.Stands.{shape_of, extra, setup, Kept, Reads, Stands}
use Rattle.refine_expressions.proofs.refine_calls_laws.Bridge.{same_at, same_memory, stack_fits, set_words, typed, reads_of}
use Rattle.refine_expressions.proofs.refine_calls_laws.KeptMoves.{callers_stay, grounded_stays}
use Rattle.refine_expressions.proofs.refine_calls_laws.MovesFit.{class_at, callers_on, place_of}
use Rattle.refine_expressions.proofs.CellsWritten.{reads_after}
use Rattle.refine_objects.proofs.CountPlaces.{IsRefers}

module _ (setting : Setting) (statics : List ℕ) (s : Scope) (u : Under) where
  abbrev E : ℕ → ℕ
  E = extra u []

  -- a count changes

  module _ (st : State) (cells : List ℕ) (h : Reads setting statics s u [] st cells) (n : ℕ)
      (live : is_live st.store n ≡ true) (change : ℕ → ℕ) where
    abbrev end : State
    end = count_changed change st n

    abbrev stack : List ℕ
    stack = stack_words setting statics h.frame.at u st.frame []

    abbrev count : ℕ
    count = change (object_at st.store n).count

    heads : (m : ℕ) → head_named end.store m ≡ head_named st.store m
    heads m = counted_heads setting E (shape_of setting.program s) s.class st n change m

    count_written : slice_set (memory setting statics h.frame.at st.store stack)
        (address_of setting statics h.frame.at n + 1) count ≡ memory setting statics h.frame.at end.store stack
    count_written =
        let room = stack_fits setting statics s u [] st cells h in
        ap (λ c. slice_set c (address_of setting statics h.frame.at n + 1) count)
        (sym (same_memory setting statics h.frame.at st.store stack room))
        ∙ subst (λ (a : Placing). slice_set (open_frame.memory (setup setting statics) a st.store stack)
        (address_of setting statics a n + 1) count ≡ open_frame.memory (setup setting statics) a end.store stack)
        (same_at setting statics s u [] st cells h)
        (write_count (setup setting statics) E (shape_of setting.program s) s.class st
        (typed setting statics s u [] st cells h) h.keeps.grounded stack n change live)
        ∙ same_memory setting statics h.frame.at end.store stack room

    frame_counted : OpenFrame setting statics s u [] end (slice_set cells (address_of setting statics h.frame.at n + 1)
        count)
    frame_counted = record {
      at = h.frame.at;
      placed = h.frame.placed;
      cells_are = ap (λ c. slice_set c (address_of setting statics h.frame.at n + 1) count) h.frame.cells_are
          ∙ count_written;
      names_are = h.frame.names_are;
      self_is = h.frame.self_is;
      stands = (class_at end.store u.self u.class (heads u.self ∙ h.keeps.own_is), h.frame.stands.1);
      callers_stand = callers_on setting statics h.frame.at st.store end.store heads u.callers h.keeps.callers_fit
          h.frame.callers_stand;
      depth_is = h.frame.depth_is;
      in_depth = h.frame.in_depth;
      put_long = h.frame.put_long;
      few = h.frame.few;
      few_vals = h.frame.few_vals;
      above_fits = h.frame.above_fits;
    }

  -- what is kept of a sound state if heads stay
  kept_sound : (st end : State) → ((m : ℕ) → head_named end.store m ≡ head_named st.store m)
      → Kept setting statics s u [] st → Sound setting E (shape_of setting.program s) s.class end
      → Kept setting statics s u [] end
  kept_sound st end heads k z = record {
    class_inside = k.class_inside;
    variables = z.variables;
    objects = z.objects;
    arrays = λ name head h. k.arrays name head (sym (heads name) ∙ h);
    lives = z.lives;
    self_is = ap (named_fits setting.program (kind.Class s.class)) (heads u.self) ∙ k.self_is;
    own_is = heads u.self ∙ k.own_is;
    self_held = k.self_held;
    main_extra = k.main_extra;
    main_unheld = z.main_unheld;
    fresh = z.fresh;
    placed = z.placed;
    grounded = grounded_stays setting statics st.store end.store heads k.grounded;
    callers_fit = callers_stay setting statics st.store end.store heads u.callers k.callers_fit;
    callers_held = k.callers_held;
    moved_fit = tt;
  }

  module _ (st : State) (cells : List ℕ) (h : Stands setting statics s u [] st cells) where
    abbrev r : Reads setting statics s u [] st cells
    r = reads_of h

    sound : Sound setting E (shape_of setting.program s) s.class st
    sound = sound_of setting E (shape_of setting.program s) s.class st (typed setting statics s u [] st cells r)
        (record { counts = h.counts; main_unheld = h.keeps.main_unheld })

    -- a write leaves counts
    same_count : (c : Cell) (v : Value) (n : ℕ) → is_live st.store n ≡ true
        → (object_at (written st c v).store n).count ≡ (object_at st.store n).count
    same_count c v n live =
        let live' : is_live (written st c v).store n ≡ true =
        ap is_some (heads_written setting E (shape_of setting.program s) s.class st c v n) ∙ live in
        let e : Some (object_at (written st c v).store n).count ≡ Some (object_at st.store n).count =
        sym (ap (option_map count_of) (live_object (written st c v).store n live'))
        ∙ counts_written setting E (shape_of setting.program s) s.class st c v n
        ∙ ap (option_map count_of) (live_object st.store n live) in
        cc

    -- a value of the cell's type is written, and the count of an object changes so that the whole
    -- is sound
    module _ (c : Cell) (k : Kind) (has : cell_kind setting.program (shape_of setting.program s) st.store c ≡ Some k)
        (v : Value) (fit : is_of_kind setting.program st.store v k ≡ true) (no_main : one_if_name main_name v ≡ 0)
        (small : value_word setting statics h.frame.at v < 2 ^ 32)
        (n : ℕ) (live : is_live st.store n ≡ true) (change : ℕ → ℕ)
        (less : change (object_at st.store n).count < 2 ^ 32)
        (all : Sound setting E (shape_of setting.program s) s.class (count_changed change (written st c v) n)) where
      abbrev mid : State
      mid = written st c v

      abbrev mid_cells : List ℕ
      mid_cells = slice_set cells (place_of setting statics h.frame.at u st c) (value_word setting statics h.frame.at v)

      first : Reads setting statics s u [] mid mid_cells
      first = reads_after setting statics s u st cells r c k has v fit no_main small

      live_mid : is_live mid.store n ≡ true
      live_mid = ap is_some (heads_written setting E (shape_of setting.program s) s.class st c v n) ∙ live

      stands_mid : Stands setting statics s u [] (count_changed change mid n)
          (slice_set mid_cells (address_of setting statics first.frame.at n + 1) (change (object_at mid.store n).count))
      stands_mid = record {
        frame = frame_counted mid mid_cells first n live_mid change;
        keeps = kept_sound mid (count_changed change mid n) (heads mid mid_cells first n live_mid change) first.keeps all;
        words = set_words mid_cells (address_of setting statics first.frame.at n + 1)
            (change (object_at mid.store n).count) first.words
            (subst (λ z. change z < 2 ^ 32) (sym (same_count c v n live)) less);
        counts = all.counts;
      }

      same_first : first.frame.at ≡ h.frame.at
      same_first =
          let e : Some first.frame.at ≡ Some h.frame.at = sym first.frame.placed
          ∙ ap (place setting.limits.heap) (log_same c) ∙ h.frame.placed in cc
        where
          log_same : (d : Cell) → (written st d v).log ≡ st.log
          log_same (Slot j) = refl
          log_same (Part m j) = refl

      pub stands_after : Stands setting statics s u [] (count_changed change mid n)
          (slice_set mid_cells (address_of setting statics h.frame.at n + 1) (change (object_at st.store n).count))
      stands_after =
          subst (λ (a : Placing). Stands setting statics s u [] (count_changed change mid n)
          (slice_set mid_cells (address_of setting statics a n + 1) (change (object_at st.store n).count)))
          same_first
          (subst (λ z. Stands setting statics s u [] (count_changed change mid n)
          (slice_set mid_cells (address_of setting statics first.frame.at n + 1) (change z)))
          (same_count c v n live) stands_mid)

    -- a copy, of a reference in one cell into another that is nil
    module _ (a b : Cell) (k l : Kind) (ha : cell_kind setting.program (shape_of setting.program s) st.store a ≡ Some k)
        (hb : cell_kind setting.program (shape_of setting.program s) st.store b ≡ Some l) (n : ℕ)
        (is : IsRefers setting statics s u st cells r n) (holds : read st a ≡ Name n) where
      pub copied_stands : read st b ≡ Nil → is_of_kind setting.program st.store (Name n) l ≡ true
          → value_word setting statics h.frame.at (Name n) < 2 ^ 32 → (object_at st.store n).count + 1 < 2 ^ 32
          → Stands setting statics s u [] (count_changed suc (written st b (Name n)) n)
          (slice_set (slice_set cells (place_of setting statics h.frame.at u st b)
          (value_word setting statics h.frame.at (Name n))) (address_of setting statics h.frame.at n + 1)
          (suc (object_at st.store n).count))
      copied_stands empty fit small less =
          stands_after b l hb (Name n) fit (other_one main_name n is.no_main) small n is.live suc (omega (arith, less))
          (copy_keeps setting E (shape_of setting.program s) s.class st a b k l n sound ha hb holds empty fit).sound

      pub uncopied_stands : read st b ≡ Name n → is_int l ≡ false → (object_at st.store n).count + 1 < 2 ^ 32
          → Stands setting statics s u [] (count_changed one_less (written st b Nil) n)
          (slice_set (slice_set cells (place_of setting statics h.frame.at u st b) 0)
          (address_of setting statics h.frame.at n + 1) ((object_at st.store n).count - 1))
      uncopied_stands same no_int less =
          stands_after b l hb Nil (ap not no_int) refl (omega arith) n is.live one_less (omega (arith, less))
          (uncopy_keeps setting E (shape_of setting.program s) s.class st a b k l n sound ha hb no_int holds same).sound
