-- Cells of the source have addresses in range, each one of its own.
use Rattle.std.proofs.Common.{◌≡◌, ◌≢◌, ◌∙◌, sym, ap, refl, ℕ, ◌+◌, ◌<◌, ⊎_elim, Bool, true, false, map, length}
use Rattle.std.proofs.Common.{Some, arith}
use Rattle.std.proofs.lemmas.Bool.{eqb-true}
use Rattle.std.proofs.lemmas.List.{length-map}
use Rattle.std.specs.Prelude.{nat_eq, ◌&&◌, slice_get}
use Rattle.std.specs.Option.{option_map}
use Rattle.meaning_sound.specs.code_conventions.declared.memory.TheConstants.{HEADER_WORDS}
use Rattle.meaning_sound.specs.class_rules.declared.kind.Kind.{Kind}
use Rattle.meaning_sound.specs.class_rules.Scope.{Locals}
use Rattle.meaning_sound.specs.buddy_book.Place.{Placing}
use Rattle.meaning_sound.specs.roopl_semantics.Store.{Object, Store, State, main_name, object_named, object_at}
use Rattle.meaning_sound.specs.roopl_semantics.Value.{Cell, Slot, Part}
use Rattle.meaning_sound.specs.roopl_semantics.Execution.{same_cell}
use Rattle.meaning_sound.specs.pisa_isa.Loaded.{statics_at}
use Rattle.meaning_sound.specs.Sound.{head_of, cell_kinds, bound_value, local_type, cell_kind, Typed}
use Rattle.refine_frame.specs.Open.{Setup, setup_base, stack_at, object_address, cell_address, IsGrounded}
use Rattle.meaning_sound.proofs.Lists.{all_inside, all_length}
use Rattle.meaning_sound.proofs.Stores.{differs}
use Rattle.meaning_sound.proofs.Cells.{part_of}
use Rattle.meaning_sound.proofs.Regions.{region_inside, regions_apart}
use Rattle.refine_frame.proofs.Memory.{base_above, main_cells, address_other}

module _ (u : Setup) (extra : ℕ → ℕ) (shape : Locals) (class : ℕ) (st : State)
    (s : Typed u.setting extra shape class st) (g : IsGrounded u st.store) where
  abbrev at : Placing
  at = s.placed.at

  -- the address of a field or element
  pub record PartPlace (n i : ℕ) : Type 0 where
    pub object : Object
    pub named : object_named st.store n ≡ Some object
    pub inside : i < length (cell_kinds u.setting.program object.head)
    pub below : object_address u at.blocks n + HEADER_WORDS + i < stack_at u

  slot_in : (i : ℕ) (k : Kind) → slice_get (map local_type shape) i ≡ Some k → i < length st.frame
  slot_in i k h = let l = all_inside u.setting.program st.store (map local_type shape) (map bound_value st.frame) i k
      s.variables h in omega (arith, length-map st.frame bound_value)

  pub part_place : (n i : ℕ) (k : Kind) → cell_kind u.setting.program shape st.store (Part n i) ≡ Some k → PartPlace n i
  part_place n i k h =
      let p = part_of u.setting.program st.store n i k h in
      let inside = Rattle.std.proofs.lemmas.Option.slice_get_within (cell_kinds u.setting.program p.object.head) i k
      p.kind_is in
      record {
        object = p.object;
        named = p.named;
        inside = inside;
        below = by p.object p.named p.at inside (nat_eq n main_name) refl;
      }
    where
      by : (o : Object) → object_named st.store n ≡ Some o → object_at st.store n ≡ o
          → i < length (cell_kinds u.setting.program o.head) → (b : Bool) → nat_eq n main_name ≡ b
          → object_address u at.blocks n + HEADER_WORDS + i < stack_at u
      by o named at_o inside true e =
          let same = eqb-true n main_name e in
          let cells = main_cells u extra shape class st s g in
          let sized = all_length u.setting.program st.store (cell_kinds u.setting.program o.head) o.cells
          (s.objects n o named) in
          let length_is : length (object_at st.store main_name).cells ≡ length o.cells =
          ap (λ m. length (object_at st.store m).cells) (sym same) ∙ ap (λ (x : Object). length x.cells) at_o in
          let a : object_address u at.blocks n ≡ statics_at = ap (object_address u at.blocks) same in
          let b = base_above u in
          let r = g.room in
          omega arith
      by o named at_o inside false e =
          let apart = differs n main_name e in
          let r = region_inside u.setting st.store st.log s.placed n o.head (ap (option_map head_of) named) apart in
          let a = address_other u extra shape class st s g n apart in
          omega arith

  -- two cells have two addresses
  pub addresses_apart : (a b : Cell) (k l : Kind) → cell_kind u.setting.program shape st.store a ≡ Some k
      → cell_kind u.setting.program shape st.store b ≡ Some l → same_cell a b ≡ false
      → cell_address u at.blocks st a ≢ cell_address u at.blocks st b
  addresses_apart (Slot i) (Slot j) k l ha hb apart e = differs i j apart
      (let x = slot_in i k ha in let y = slot_in j l hb in omega arith)
  addresses_apart (Slot i) (Part m j) k l ha hb apart e = let p = (part_place m j l hb).below in omega arith
  addresses_apart (Part n i) (Slot j) k l ha hb apart e = let p = (part_place n i k ha).below in omega arith
  addresses_apart (Part n i) (Part m j) k l ha hb apart e = by (nat_eq n m) refl apart
    where
      p : PartPlace n i
      p = part_place n i k ha

      q : PartPlace m j
      q = part_place m j l hb

      -- the main object's cells are before the heap
      main_low : (x y : ℕ) → PartPlace x y → x ≡ main_name
          → object_address u at.blocks x + HEADER_WORDS + y < setup_base u
      main_low x y place same =
          let cells = main_cells u extra shape class st s g in
          let sized = all_length u.setting.program st.store (cell_kinds u.setting.program place.object.head)
          place.object.cells (s.objects x place.object place.named) in
          let object_is : object_at st.store x ≡ place.object =
          ap (λ r. Rattle.std.specs.Option.unwrap_or r Rattle.meaning_sound.specs.roopl_semantics.Store.no_object)
          place.named in
          let length_is : length (object_at st.store main_name).cells ≡ length place.object.cells =
          ap (λ z. length (object_at st.store z).cells) (sym same)
          ∙ ap (λ (o : Object). length o.cells) object_is in
          let a : object_address u at.blocks x ≡ statics_at = ap (object_address u at.blocks) same in
          let b = base_above u in
          let r = g.room in
          let i = place.inside in
          omega arith

      two : (b c : Bool) → nat_eq n main_name ≡ b → nat_eq m main_name ≡ c → n ≢ m → ⊥
      two true true f h d = d (eqb-true n main_name f ∙ sym (eqb-true m main_name h))
      two true false f h d = let x = main_low n i p (eqb-true n main_name f) in let y =
          address_other u extra shape class st s g m (differs m main_name h) in omega arith
      two false true f h d = let x = main_low m j q (eqb-true m main_name h) in let y =
          address_other u extra shape class st s g n (differs n main_name f) in omega arith
      two false false f h d =
          let x = address_other u extra shape class st s g n (differs n main_name f) in
          let y = address_other u extra shape class st s g m (differs m main_name h) in
          let r = regions_apart u.setting st.store st.log s.placed n m p.object.head q.object.head
          (ap (option_map head_of) p.named) (ap (option_map head_of) q.named) (differs n main_name f)
          (differs m main_name h) d in
          let a = p.inside in
          let b = q.inside in
          ⊎_elim (λ z. omega arith) (λ z. omega arith) r

      by : (b : Bool) → nat_eq n m ≡ b → (b && nat_eq i j) ≡ false → ⊥
      by true f z = differs i j z (let c : object_address u at.blocks n
          ≡ object_address u at.blocks m = ap (object_address u at.blocks) (eqb-true n m f) in omega arith)
      by false f z = two (nat_eq n main_name) (nat_eq m main_name) refl refl (differs n m f)
