-- The address of an object's reference count: it is below the stack, in no cell of the source, and
-- holds a word that can grow.
use Rattle.std.proofs.Common.{◌≡◌, ◌≢◌, ℕ, ◌+◌, ◌-◌, ◌*◌, ◌^◌, ◌<◌, ◌≤◌, ⊎_elim, Bool, true, false, List, [], length}
use Rattle.std.proofs.Common.{Some, refl, sym, ap, ◌∙◌, arith}
use Rattle.std.proofs.lemmas.Bool.{eqb-true}
use Rattle.std.specs.Prelude.{nat_eq, slice_index, if◌then◌else◌}
use Rattle.std.specs.Option.{unwrap_or, option_map}
use Rattle.object_codegen.specs.rpp_words.declared.input.TheConstants.{FRAME_WORDS}
use Rattle.object_codegen.specs.code_conventions.declared.memory.TheConstants.{FIRST_VARIABLE, HEADER_WORDS}
use Rattle.object_codegen.specs.class_rules.declared.kind.Kind.{Kind}
use Rattle.object_codegen.specs.buddy_book.Place.{Placing, block_of}
use Rattle.object_codegen.specs.pisa_isa.Loaded.{statics_at}
use Rattle.object_codegen.specs.pisa_isa.declared.image.TheConstants.{MOST_STATICS}
use Rattle.object_codegen.specs.roopl_semantics.Store.{Word, Name, Object, State, main_name, object_at, no_object}
use Rattle.object_codegen.specs.roopl_semantics.Value.{Cell, Slot, Part, read}
use Rattle.object_codegen.specs.roopl_semantics.Laws.{one_if_name}
use Rattle.object_codegen.specs.roopl_semantics.Execution.{Setting, same_cell}
use Rattle.object_codegen.specs.meaning_sound.Sound.{head_of, count_of, cell_kind, held, Typed}
use Rattle.object_codegen.proofs.meaning_sound_laws.Cells.{held_written}
use Rattle.object_codegen.proofs.meaning_sound_laws.Lists.{all_length}
use Rattle.object_codegen.proofs.meaning_sound_laws.Regions.{region_inside, regions_apart}
use Rattle.object_codegen.proofs.meaning_sound_laws.Removal.{one_name}
use Rattle.object_codegen.proofs.meaning_sound_laws.Stores.{other_number, differs, live_object}
use Rattle.object_codegen.specs.refine_frame.Open.{Setup}
use Rattle.object_codegen.specs.refine_frame.Open as open_frame
use Rattle.object_codegen.proofs.refine_frame_laws.Addresses.{PartPlace, part_place, addresses_apart}
use Rattle.object_codegen.proofs.refine_frame_laws.Memory.{base_above, main_cells, address_other}
use Rattle.object_codegen.proofs.refine_frame_laws.Tells.{IsReference, reference_read, read_count}
use Rattle.object_codegen.specs.refine_form.Form.{Scope}
use Rattle.object_codegen.specs.refine_form.Frames.{Under, base, stack_base, address_of, stack_words}
use Rattle.object_codegen.specs.refine_form.Stands.{shape_of, extra, setup, Reads, Stands}
use Rattle.refine_expressions.proofs.refine_calls_laws.Bridge.{typed, reads_of}
use Rattle.refine_expressions.proofs.refine_calls_laws.MovesFit.{place_of}
use Rattle.refine_expressions.proofs.FrameReads.{memory_is}
use Rattle.refine_objects.proofs.CellsFew.{holders_few}

module _ (setting : Setting) (statics : List ℕ) (s : Scope) (u : Under) (st : State) (cells : List ℕ)
    (h : Reads setting statics s u [] st cells) where
  abbrev x : Setup
  x = setup setting statics

  abbrev E : ℕ → ℕ
  E = extra u []

  abbrev t : Typed setting (extra u []) (shape_of setting.program s) s.class st
  t = typed setting statics s u [] st cells h

  abbrev at : Placing
  at = h.keeps.placed.at

  abbrev HasKind : Cell → Kind → Type 0
  HasKind c k = cell_kind setting.program (shape_of setting.program s) st.store c ≡ Some k

  abbrev pub IsRefers : ℕ → Type 0
  IsRefers n = IsReference x E (shape_of setting.program s) s.class st t h.keeps.main_unheld n

  pub refers : (c : Cell) (k : Kind) (n : ℕ) → HasKind c k → read st c ≡ Name n → IsRefers n
  refers c k n has e = reference_read x E (shape_of setting.program s) s.class st t h.keeps.main_unheld c k n has e

  -- the object's address is its block's
  pub at_block : (n : ℕ) → IsRefers n → address_of setting statics at n ≡ base setting statics + block_of at.blocks n
  at_block n r = ap (λ q. if q then statics_at else base setting statics + block_of at.blocks n)
      (other_number n main_name r.no_main)

  pub above_nil : (n : ℕ) → IsRefers n → address_of setting statics at n ≢ 0
  above_nil n r z = let a = at_block n r in let b = base_above x in omega (arith, a, b, z)

  region : (n : ℕ) → IsRefers n → block_of at.blocks n + HEADER_WORDS ≤ 2 ^ setting.limits.heap
  region n r =
      let inside = region_inside setting st.store st.log h.keeps.placed n (object_at st.store n).head
      (ap (option_map head_of) (live_object st.store n r.live)) r.no_main in
      omega (arith, inside)

  pub count_low : (n : ℕ) → IsRefers n → address_of setting statics at n + 1 < stack_base setting statics
  count_low n r = let a = at_block n r in let b = region n r in omega (arith, a, b)

  -- it is no cell's
  pub count_apart : (n : ℕ) → IsRefers n → (c : Cell) (k : Kind) → HasKind c k
      → place_of setting statics at u st c ≢ address_of setting statics at n + 1
  count_apart n r (Slot i) k has e = let l = count_low n r in omega (arith, l, e)
  count_apart n r (Part m i) k has e = by (nat_eq n m) refl
    where
      place : PartPlace x E (shape_of setting.program s) s.class st t h.keeps.grounded m i
      place = part_place x E (shape_of setting.program s) s.class st t h.keeps.grounded m i k has

      own : address_of setting statics at n ≡ base setting statics + block_of at.blocks n
      own = at_block n r

      main_low : m ≡ main_name → ⊥
      main_low same =
          let cells = main_cells x E (shape_of setting.program s) s.class st t h.keeps.grounded in
          let sized = all_length setting.program st.store _ place.object.cells
          (h.keeps.objects m place.object place.named) in
          let object_is : object_at st.store m ≡ place.object = ap (λ o. unwrap_or o no_object) place.named in
          let length_is : length (object_at st.store main_name).cells ≡ length place.object.cells =
          ap (λ z. length (object_at st.store z).cells) (sym same)
          ∙ ap (λ (o : Object). length o.cells) object_is in
          let a : address_of setting statics at m ≡ statics_at = ap (address_of setting statics at) same in
          let b = base_above x in
          let g = h.keeps.grounded.room in
          let inside = place.inside in
          let o = own in
          omega (arith, cells, sized, length_is, a, b, g, inside, o, e)

      other : n ≢ m → m ≢ main_name → ⊥
      other apart no_main =
          let a = address_other x E (shape_of setting.program s) s.class st t h.keeps.grounded m no_main in
          let b : address_of setting statics at m ≡ base setting statics + block_of at.blocks m = a in
          let inside = place.inside in
          let o = own in
          let d = regions_apart setting st.store st.log h.keeps.placed n m (object_at st.store n).head place.object.head
          (ap (option_map head_of) (live_object st.store n r.live)) (ap (option_map head_of) place.named) r.no_main
          no_main apart in
          ⊎_elim (λ z. omega (arith, b, inside, o, e, z)) (λ z. omega (arith, b, inside, o, e, z)) d

      by : (b : Bool) → nat_eq n m ≡ b → ⊥
      by true q = let z : address_of setting statics at n ≡ address_of setting statics at m =
          ap (address_of setting statics at) (eqb-true n m q) in omega (arith, e, z)
      by false q = two (nat_eq m main_name) refl
        where
          two : (d : Bool) → nat_eq m main_name ≡ d → ⊥
          two true f = main_low (eqb-true m main_name f)
          two false f = other (differs n m q) (differs m main_name f)

  -- what is there
  pub count_word : (n : ℕ) → IsRefers n → slice_index cells (address_of setting statics at n + 1)
      ≡ (object_at st.store n).count
  count_word n r =
      ap (λ z. slice_index z (address_of setting statics at n + 1)) (memory_is setting statics s u st cells h)
      ∙ read_count x E (shape_of setting.program s) s.class st t h.keeps.main_unheld h.keeps.grounded
      (stack_words setting statics at u st.frame []) n r.live

  -- two cells have two addresses
  cell_is : (c : Cell) → place_of setting statics at u st c ≡ open_frame.cell_address x at.blocks st c
  cell_is (Slot i) =
      let d = h.frame.depth_is in
      let z : length u.callers ≡ st.depth - 1 = omega (arith, d) in
      let e : stack_base setting statics + FRAME_WORDS * length u.callers + (FIRST_VARIABLE + (length st.frame - 1 - i))
      ≡ stack_base setting statics + FRAME_WORDS * (st.depth - 1) + (FIRST_VARIABLE + (length st.frame - 1 - i)) =
      ap (λ j. stack_base setting statics + FRAME_WORDS * j + (FIRST_VARIABLE + (length st.frame - 1 - i))) z in
      e
  cell_is (Part n i) = let z : address_of setting statics at n + (HEADER_WORDS + i)
      ≡ address_of setting statics at n + HEADER_WORDS + i =
      omega arith in z

  pub cells_apart : (a b : Cell) (k l : Kind) → HasKind a k → HasKind b l → same_cell a b ≡ false
      → place_of setting statics at u st a ≢ place_of setting statics at u st b
  cells_apart a b k l ha hb apart e =
      addresses_apart x E (shape_of setting.program s) s.class st t h.keeps.grounded a b k l ha hb apart
      (sym (cell_is a) ∙ e ∙ cell_is b)

  -- if something holds a name, one does
  pub held_some : (c : Cell) (k : Kind) (n : ℕ) → HasKind c k → read st c ≡ Name n → 1 ≤ held n st
  held_some c k n has e =
      let a = held_written setting E (shape_of setting.program s) s.class st c k (Word 0) n t has in
      let b : one_if_name n (read st c) ≡ 1 = ap (one_if_name n) e ∙ one_name n in
      omega (arith, a, b)

module _ (setting : Setting) (statics : List ℕ) (few : length statics ≤ MOST_STATICS) (s : Scope) (u : Under)
    (st : State)
    (cells : List ℕ) (h : Stands setting statics s u [] st cells) (n : ℕ)
    (r : IsRefers setting statics s u st cells (reads_of h) n) where
  count_is : (object_at st.store n).count ≡ held n st + extra u [] n
  count_is = h.counts n (object_at st.store n).count (ap (option_map count_of) (live_object st.store n r.live))

  pub count_small : (object_at st.store n).count + 1 < 2 ^ 32
  count_small = let a = count_is in let b = holders_few setting statics s u st cells few (reads_of h) n in
      omega (arith, a, b)

  pub count_some : (c : Cell) (k : Kind) → cell_kind setting.program (shape_of setting.program s) st.store c ≡ Some k
      → read st c ≡ Name n → 1 ≤ (object_at st.store n).count
  count_some c k has e = let a = count_is in let b = held_some setting statics s u st cells (reads_of h) c k n has e in
      omega (arith, a, b)
