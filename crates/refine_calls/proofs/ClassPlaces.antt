-- The table of an object's class, in the memory of a current frame.
use Rattle.std.proofs.Common.{◌≡◌, ◌≢◌, ℕ, zero, suc, ◌+◌, ◌<◌, ◌≤◌, Bool, true, false, List, length, Some, sym, ap}
use Rattle.std.proofs.Common.{◌∙◌}
use Rattle.std.proofs.Common.{subst, arith}
use Rattle.std.specs.Prelude.{nat_eq, if◌then◌else◌, slice_index, is_some}
use Rattle.method_calls.specs.code_conventions.declared.memory.TheConstants.{MAIN_OBJECT, FIRST_FIELD, TABLE_HEADER}
use Rattle.buddy_pisa.specs.rpp_words.declared.input.TheConstants.{FIXED_CELLS}
use Rattle.method_calls.specs.class_rules.declared.kind.Kind.TheVariants as kind
use Rattle.method_calls.specs.class_rules.Classes.{class_slots}
use Rattle.method_calls.specs.rpp_tree.Tree.{Source}
use Rattle.buddy_pisa.specs.buddy_book.Place.{Placing, block_of}
use Rattle.method_calls.specs.roopl_semantics.Store.{OfClass, State, main_name, object_at}
use Rattle.method_calls.specs.roopl_semantics.Layout.{HasStatics, table_at, head_word}
use Rattle.method_calls.specs.roopl_semantics.Execution.{Setting}
use Rattle.buddy_pisa.specs.pisa_isa.Image.{Segments}
use Rattle.buddy_pisa.specs.pisa_isa.declared.image.TheConstants.{MOST_STATICS}
use Rattle.method_calls.specs.class_rules.Inheritance.{is_or_inherits}
use Rattle.method_calls.specs.meaning_sound.Sound.{named_fits, head_of}
use Rattle.method_calls.proofs.meaning_sound_laws.Stores.{live_object}
use Rattle.method_calls.proofs.refine_frame_laws.Memory.{base_above}
use Rattle.method_calls.proofs.class_rules_laws.FoundMethods.{own_range}
use Rattle.method_calls.proofs.refine_frame_laws.Tells.{read_head}
use Rattle.method_calls.proofs.refine_frame_laws.TableWords.{places_of, read_table, table_low}
use Rattle.method_calls.specs.refine_form.Form.{Scope, Moved}
use Rattle.method_calls.specs.Facts.{HasPlace}
use Rattle.method_calls.specs.refine_form.Frames.{Under, base, address_of}
use Rattle.method_calls.specs.refine_form.Stands.{shape_of, extra, setup, Kept, Stands}
use Rattle.refine_calls.proofs.Bridge.{same_memory, same_at, typed, stack_fits, stack}
use Rattle.refine_calls.proofs.MovesFit.{frame_long}
use Rattle.refine_calls.proofs.FramePlaces.{all_small, object_low}
use Rattle.refine_calls.proofs.Bridge.{reads_of}

-- the tables come after the main object
table_high : (program : Source) (class : ℕ) → FIRST_FIELD ≤ table_at program class
table_high program zero = omega arith
table_high program (suc class) = let h = table_high program class in omega (arith, h)

-- no object begins there: the main object is before them, any other one in the heap
no_object : (is_main : Bool) (base block entry : ℕ) → MAIN_OBJECT < entry → entry < base
    → entry ≢ (if is_main then MAIN_OBJECT else base + block)
no_object true base block entry h g e = let q : entry ≡ MAIN_OBJECT = e in omega (arith, h, q)
no_object false base block entry h g e = let q : entry ≡ base + block = e in omega (arith, g, q)

module _ (setting : Setting) (statics : List ℕ) (few : length statics ≤ MOST_STATICS) (image : Segments)
    (has : HasStatics setting.program image) (same : statics ≡ image.statics) where
  -- the object's class is the scope's or inherits from it
  pub class_above : (s : Scope) (u : Under) (moved : List Moved) (st : State) → Kept setting statics s u moved st
      → is_or_inherits setting.program u.class s.class ≡ true
  class_above s u moved st k = sym (ap (named_fits setting.program (kind.Class s.class)) k.own_is) ∙ k.self_is

  pub table_read : (s : Scope) (u : Under) (moved : List Moved) (st : State) (cells : List ℕ)
      → Stands setting statics s u moved st cells → (slot : ℕ) → slot < length (class_slots setting.program u.class)
      → HasPlace cells u.object slot (slice_index (places_of has.places u.class) slot)
  table_read s u moved st cells h slot low =
      let x = setup setting statics in
      let at = h.frame.at in
      let words = stack setting statics s u moved st cells (reads_of h) in
      let own_in = own_range setting.program u.class s.class (class_above s u moved st h.keeps) h.keeps.class_inside in
      let fits = stack_fits setting statics s u moved st cells (reads_of h) in
      let all = frame_long setting statics s u moved st cells (reads_of h) in
      let object = object_low setting statics few s u moved st cells h in
      let small = all_small setting statics few h.keeps.grounded.limits in
      let b : FIXED_CELLS + length statics ≤ base setting statics = base_above x in
      let low_table = table_low setting.program image has u.class slot own_in low in
      let table : table_at setting.program u.class + TABLE_HEADER + slot < FIXED_CELLS + length statics =
      subst (λ z. table_at setting.program u.class + TABLE_HEADER + slot < FIXED_CELLS + length z) (sym same) low_table
      in
      let shown : cells ≡ Rattle.method_calls.specs.refine_frame.Open.memory x at st.store words = h.frame.cells_are
      ∙ sym (same_memory setting statics at st.store words fits) in
      let live = live_object st.store u.self (ap is_some h.keeps.own_is) in
      let head : (object_at st.store u.self).head ≡ OfClass u.class =
      (let e : Some (object_at st.store u.self).head ≡ Some (OfClass u.class) = sym
      (ap (Rattle.std.specs.Option.option_map head_of) live) ∙ h.keeps.own_is in cc) in
      let word : slice_index (Rattle.method_calls.specs.refine_frame.Open.memory x at st.store words)
      (address_of setting statics at u.self) ≡ table_at setting.program u.class =
      subst (λ (a : Placing). slice_index (Rattle.method_calls.specs.refine_frame.Open.memory x a st.store words)
      (address_of setting statics a u.self) ≡ table_at setting.program u.class)
      (same_at setting statics s u moved st cells (reads_of h))
      (read_head x (extra u moved) (shape_of setting.program s) s.class st
      (typed setting statics s u moved st cells (reads_of h)) h.keeps.main_unheld h.keeps.grounded words u.self
      (ap is_some h.keeps.own_is) ∙ ap (head_word setting.program) head) in
      let object_word : slice_index cells u.object ≡ table_at setting.program u.class =
      ap (slice_index cells) (sym h.frame.stands.1) ∙ ap (λ c. slice_index c (address_of setting statics at u.self))
      shown ∙ word in
      let at_entry : table_at setting.program u.class + TABLE_HEADER + slot
      ≡ table_at setting.program u.class + (TABLE_HEADER + slot) =
      omega arith in
      let entry_word : slice_index (Rattle.method_calls.specs.refine_frame.Open.memory x at st.store words)
      (table_at setting.program u.class + TABLE_HEADER + slot) ≡ slice_index (places_of has.places u.class) slot =
      subst (λ (a : Placing). slice_index (Rattle.method_calls.specs.refine_frame.Open.memory x a st.store words)
      (table_at setting.program u.class + TABLE_HEADER + slot) ≡ slice_index (places_of has.places u.class) slot)
      (same_at setting statics s u moved st cells (reads_of h))
      (read_table x (extra u moved) (shape_of setting.program s) s.class st
      (typed setting statics s u moved st cells (reads_of h)) h.keeps.grounded image has same words u.class slot
      own_in low) in
      record {
        object_in = omega (arith, all, object);
        small = omega (arith, object_word, small, b, table);
        entry_in = omega (arith, object_word, all, b, table);
        apart = λ e. no_object (nat_eq u.self main_name) (base setting statics) (block_of at.blocks u.self)
            (table_at setting.program u.class + (TABLE_HEADER + slot))
            (omega (arith, table_high setting.program u.class))
            (omega (arith, b, table)) (ap (λ z. z + (TABLE_HEADER + slot)) (sym object_word) ∙ e
            ∙ sym h.frame.stands.1);
        entry = ap (λ z. slice_index cells (z + (TABLE_HEADER + slot))) object_word
            ∙ ap (slice_index cells) (sym at_entry)
            ∙ ap (λ c. slice_index c (table_at setting.program u.class + TABLE_HEADER + slot)) shown ∙ entry_word;
      }
