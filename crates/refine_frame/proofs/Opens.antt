-- Under a current frame the cells of the source are words of the machine, and their writes are
-- writes there; variables and frames come and go.
use Rattle.std.proofs.Common.{◌≡◌, ◌∙◌, sym, ap, subst, refl, ℕ, zero, suc, ◌+◌, ◌-◌, ◌*◌, ◌<◌, ◌≤◌, List, [], ◌∷◌}
use Rattle.std.proofs.Common.{◌++◌, map, length, Some, arith, append-nil, length-append}
use Rattle.std.proofs.lemmas.List.{get_or_append_left, get_or-append_right, set-append_left, set-append_right}
use Rattle.std.proofs.lemmas.List.{length-replicate, length-map}
use Rattle.std.specs.Prelude.{slice_get, slice_index, slice_set, replicate}
use Rattle.meaning_sound.specs.code_conventions.declared.memory.TheConstants.{HEADER_WORDS, FIRST_VARIABLE}
use Rattle.meaning_sound.specs.class_rules.declared.kind.Kind.{Kind}
use Rattle.meaning_sound.specs.class_rules.Scope.{Locals}
use Rattle.meaning_sound.specs.buddy_book.Place.{Placing, place}
use Rattle.meaning_sound.specs.roopl_semantics.Store.{Value, Object, Binding, State}
use Rattle.meaning_sound.specs.roopl_semantics.Value.{Cell, Slot, Part, value_at, with_value, read, written}
use Rattle.meaning_sound.specs.roopl_semantics.Layout.{word_of_value, layout}
use Rattle.meaning_sound.specs.pisa_isa.Machine.{State as Machine, reg}
use Rattle.meaning_sound.specs.code_conventions.declared.registers.TheConstants.{FRAME, OBJECT}
use Rattle.meaning_sound.specs.rpp_words.declared.input.TheConstants.{FRAME_WORDS}
use Rattle.meaning_sound.specs.Sound.{cell_kinds, bound_value, local_type, cell_kind, Typed}
use Rattle.refine_frame.specs.Open.{Setup, setup_base, stack_at, object_address, memory, frame_words, cell_address}
use Rattle.refine_frame.specs.Open.{OpenMemory, IsGrounded}
use Rattle.meaning_sound.proofs.Lists.{all_inside}
use Rattle.meaning_sound.proofs.Stores.{live_named}
use Rattle.meaning_sound.proofs.Cells.{part_of}
use Rattle.refine_frame.proofs.Memory.{read_stack, write_stack, read_part, write_part, zeros_end}
use Rattle.refine_frame.proofs.Memory.{memory_is_layout}

-- the machine with another word in a cell
abbrev pub with_cell : Machine → ℕ → ℕ → Machine
with_cell m address w = record m { cells = slice_set m.cells address w }

-- ---- the words of a frame

pub length_frame_words : (base : ℕ) (blocks : List (ℕ × ℕ)) (f : List Binding)
    → length (frame_words base blocks f) ≡ length f
length_frame_words base blocks [] = refl
length_frame_words base blocks (b ∷ bs) = omega (
  arith,
  length-append (frame_words base blocks bs) (word_of_value base blocks b.value ∷ []),
  length_frame_words base blocks bs,
)

pub read_frame : (base : ℕ) (blocks : List (ℕ × ℕ)) (f : List Binding) (i p : ℕ) → i < length f → p ≡ length f - 1 - i
    → slice_index (frame_words base blocks f) p ≡ word_of_value base blocks (value_at f i)
read_frame base blocks [] i p h e = absurd (omega arith)
read_frame base blocks (b ∷ bs) zero p h e =
    let l = length_frame_words base blocks bs in
    let q : p - length bs ≡ 0 = omega arith in
    get_or-append_right (frame_words base blocks bs) (word_of_value base blocks b.value ∷ []) (length bs) p 0 l
    (omega arith)
    ∙ ap (slice_index (word_of_value base blocks b.value ∷ [])) q
read_frame base blocks (b ∷ bs) (suc i) p h e =
    let l = length_frame_words base blocks bs in
    get_or_append_left (frame_words base blocks bs) (word_of_value base blocks b.value ∷ []) 0 p (omega arith)
    ∙ read_frame base blocks bs i p (omega arith) (omega arith)

pub write_frame : (base : ℕ) (blocks : List (ℕ × ℕ)) (f : List Binding) (i p : ℕ) (v : Value) → i < length f
    → p ≡ length f - 1 - i → slice_set (frame_words base blocks f) p (word_of_value base blocks v)
    ≡ frame_words base blocks (with_value f i v)
write_frame base blocks [] i p v h e = absurd (omega arith)
write_frame base blocks (b ∷ bs) zero p v h e =
    let l = length_frame_words base blocks bs in
    let q : p - length bs ≡ 0 = omega arith in
    set-append_right (frame_words base blocks bs) (word_of_value base blocks b.value ∷ []) (length bs) p
    (word_of_value base blocks v) l (omega arith) ∙ ap (λ z. frame_words base blocks bs
    ++ slice_set (word_of_value base blocks b.value ∷ []) z (word_of_value base blocks v)) q
write_frame base blocks (b ∷ bs) (suc i) p v h e =
    let l = length_frame_words base blocks bs in
    set-append_left (frame_words base blocks bs) (word_of_value base blocks b.value ∷ []) p
    (word_of_value base blocks v)
    (omega arith) ∙ ap (λ z. z ++ word_of_value base blocks b.value ∷ [])
    (write_frame base blocks bs i p v (omega arith) (omega arith))

module _ (u : Setup) (extra : ℕ → ℕ) (shape : Locals) (class : ℕ) (st : State)
    (s : Typed u.setting extra shape class st) (g : IsGrounded u st.store) (below : List ℕ) (m : Machine)
    (o : OpenMemory u s.placed.at below st m) where
  abbrev at : Placing
  at = s.placed.at

  abbrev base : ℕ
  base = setup_base u

  abbrev words : List ℕ
  words = frame_words base at.blocks st.frame

  abbrev stack : List ℕ
  stack = below ++ words

  pub stack_length : length stack ≡ length below + length st.frame
  stack_length = omega (arith, length-append below words, length_frame_words base at.blocks st.frame)

  -- the stack's words lie within it
  pub stack_room : length below + length st.frame + 448 ≤ FRAME_WORDS * u.setting.limits.deep
  stack_room = let a = o.level in let b = o.in_depth in let c = o.open_calls in let d = o.few in omega arith

  -- ---- reads

  slot_inside : (i : ℕ) (k : Kind) → slice_get (map local_type shape) i ≡ Some k → i < length st.frame
  slot_inside i k h = let l = all_inside u.setting.program st.store (map local_type shape) (map bound_value st.frame) i
      k
      s.variables h in omega (arith, length-map st.frame bound_value)

  -- a cell that is there: its address holds the word of what the source reads
  pub read_cell_is : (cell : Cell) (k : Kind) → cell_kind u.setting.program shape st.store cell ≡ Some k
      → slice_index m.cells (cell_address u at.blocks st cell) ≡ word_of_value base at.blocks (read st cell)
  read_cell_is (Slot i) k h =
      let inside = slot_inside i k h in
      let l = stack_length in
      let v = o.level in
      let r = stack_room in
      let place : cell_address u at.blocks st (Slot i) ≡ stack_at u + (length below + (length st.frame - 1 - i)) =
      omega arith in
      let back : length below + (length st.frame - 1 - i) - length below ≡ length st.frame - 1 - i = omega arith in
      ap (slice_index m.cells) place
      ∙ ap (λ z. slice_index z (stack_at u + (length below + (length st.frame - 1 - i)))) o.cells
      ∙ read_stack u extra shape class st s g stack (length below + (length st.frame - 1 - i)) (omega arith)
      (omega arith)
      ∙ get_or-append_right below words (length below) (length below + (length st.frame - 1 - i)) 0 refl (omega arith)
      ∙ ap (slice_index words) back
      ∙ read_frame base at.blocks st.frame i (length st.frame - 1 - i) inside refl
  read_cell_is (Part n i) k h =
      let p = part_of u.setting.program st.store n i k h in
      let inside = all_inside u.setting.program st.store (cell_kinds u.setting.program p.object.head) p.object.cells i k
      (s.objects n p.object p.named) p.kind_is in
      ap (λ z. slice_index z (object_address u at.blocks n + HEADER_WORDS + i)) o.cells
      ∙ read_part u extra shape class st s g stack n i (live_named st.store n p.object p.named)
      (subst (λ (x : Object). i < length x.cells) (sym p.at) inside)

  -- ---- writes

  pub write_cell_is : (cell : Cell) (k : Kind) (v : Value) → cell_kind u.setting.program shape st.store cell ≡ Some k
      → OpenMemory u at below (written st cell v) (with_cell m (cell_address u at.blocks st cell)
      (word_of_value base at.blocks v))
  write_cell_is (Slot i) k v h =
      let inside = slot_inside i k h in
      let l = stack_length in
      let level = o.level in
      let w = word_of_value base at.blocks v in
      let place : cell_address u at.blocks st (Slot i) ≡ stack_at u + (length below + (length st.frame - 1 - i)) =
      omega arith in
      let back : length below + (length st.frame - 1 - i) - length below ≡ length st.frame - 1 - i = omega arith in
      record {
        placed = o.placed;
        cells =
            ap (λ a. slice_set m.cells a w) place
            ∙ ap (λ z. slice_set z (stack_at u + (length below + (length st.frame - 1 - i))) w) o.cells
            ∙ write_stack u extra shape class st s g stack (length below + (length st.frame - 1 - i)) w (omega arith)
            ∙ ap (memory u at st.store) (set-append_right below words (length below)
            (length below + (length st.frame - 1 - i)) w refl (omega arith)
            ∙ ap (λ z. below ++ slice_set words z w) back
            ∙ ap (λ z. below ++ z) (write_frame base at.blocks st.frame i (length st.frame - 1 - i) v inside refl));
        level = o.level;
        open_calls = o.open_calls;
        in_depth = o.in_depth;
        few = let a = o.few in let b = with_value_length st.frame i v in omega arith;
        registers = o.registers;
        object_is = o.object_is;
        frame_is = o.frame_is;
      }
    where
      with_value_length : (f : List Binding) (i : ℕ) (v : Value) → length (with_value f i v) ≡ length f
      with_value_length [] i v = refl
      with_value_length (b ∷ f) zero v = refl
      with_value_length (b ∷ f) (suc i) v = ap suc (with_value_length f i v)
  write_cell_is (Part n i) k v h =
      let p = part_of u.setting.program st.store n i k h in
      let inside = all_inside u.setting.program st.store (cell_kinds u.setting.program p.object.head) p.object.cells i k
      (s.objects n p.object p.named) p.kind_is in
      let w = word_of_value base at.blocks v in
      record {
        placed = o.placed;
        cells =
            ap (λ z. slice_set z (object_address u at.blocks n + HEADER_WORDS + i) w) o.cells
            ∙ write_part u extra shape class st s g stack n i v (live_named st.store n p.object p.named)
            (subst (λ (x : Object). i < length x.cells) (sym p.at) inside);
        level = o.level;
        open_calls = o.open_calls;
        in_depth = o.in_depth;
        few = o.few;
        registers = o.registers;
        object_is = o.object_is;
        frame_is = o.frame_is;
      }
  -- ---- the end of the stack

-- ---- the whole run

-- the layout, with the two addresses in their registers, is a current frame without variables: so
-- the body of `main` begins
pub begun : (u : Setup) (at : Placing) (st : State) (m : Machine) → st.frame ≡ [] → st.depth ≡ 1
    → 1 ≤ u.setting.limits.deep → place u.setting.limits.heap st.log ≡ Some at
    → m.cells ≡ layout u.setting.program u.setting.limits u.statics st.store st.log → length m.regs ≡ 32
    → reg m OBJECT ≡ object_address u at.blocks st.self → reg m FRAME ≡ stack_at u
    → OpenMemory u at (replicate FIRST_VARIABLE 0) st m
begun u at st m none one deep placed cells regs object frame = record {
  placed = placed;
  cells =
      cells ∙ sym (memory_is_layout u at st.store st.log placed) ∙ sym (zeros_end u at st.store [] FIRST_VARIABLE)
      ∙ ap (memory u at st.store) (sym (ap (λ f. replicate FIRST_VARIABLE 0 ++ frame_words (setup_base u) at.blocks f)
      none
      ∙ append-nil (replicate FIRST_VARIABLE 0)));
  level = omega (arith, length-replicate {A = ℕ} FIRST_VARIABLE 0);
  open_calls = omega arith;
  in_depth = omega arith;
  few = omega (arith, ap length none);
  registers = regs;
  object_is = object;
  frame_is = frame ∙ (let q : stack_at u ≡ stack_at u + FRAME_WORDS * (st.depth - 1) = omega arith in q);
}

-- and with no variables and zeros saved the cells are the layout
pub ended : (u : Setup) (at : Placing) (st : State) (m : Machine) (n : ℕ) → st.frame ≡ []
    → OpenMemory u at (replicate n 0) st m → m.cells ≡ layout u.setting.program u.setting.limits u.statics st.store
    st.log
ended u at st m n none o =
    o.cells
    ∙ ap (memory u at st.store) (ap (λ f. replicate n 0 ++ frame_words (setup_base u) at.blocks f) none
    ∙ append-nil (replicate n 0))
    ∙ zeros_end u at st.store [] n
    ∙ memory_is_layout u at st.store st.log o.placed
