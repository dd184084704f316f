-- What an expression reads is in the memory of a current frame, and each word represents its value.
use Rattle.std.proofs.Common.{◌≡◌, ◌≢◌, ℕ, ◌+◌, ◌-◌, ◌<◌, ◌≤◌, true, List, [], length, map, Option, Some, None, refl}
use Rattle.std.proofs.Common.{sym, ap, ◌∙◌, subst, arith}
use Rattle.std.proofs.lemmas.List.{length-replicate}
use Rattle.std.specs.Prelude.{slice_index, slice_get, position, if◌then◌else◌, Ok}
use Rattle.std.specs.Option.{unwrap_or, option_map, option_or}
use Rattle.std.specs.Str.{bytes_eq}
use Rattle.refine_calls.specs.rpp_words.declared.input.TheConstants.{FIXED_CELLS}
use Rattle.refine_calls.specs.code_conventions.declared.memory.TheConstants.{FIRST_VARIABLE, HEADER_WORDS}
use Rattle.refine_calls.specs.rpp_tree.declared.tree.Ident.{Ident}
use Rattle.refine_calls.specs.class_rules.declared.kind.Kind.{Kind}
use Rattle.refine_calls.specs.class_rules.declared.kind.Kind.TheVariants as kind
use Rattle.refine_calls.specs.class_rules.Table.{table_of, field_in}
use Rattle.refine_calls.specs.class_rules.Scope.{Typing, Locals, local_kind, kind_at, field_kind, kind_in}
use Rattle.refine_calls.specs.class_rules.Refusal.{unknown_name}
use Rattle.refine_calls.specs.class_rules.Expressions.{element_kind, variable_type}
use Rattle.refine_calls.specs.class_rules.Program.{setting_in}
use Rattle.refine_calls.proofs.class_rules_laws.PassedRules.{some_of}
use Rattle.refine_calls.specs.buddy_book.Place.{Placing, place, block_of}
use Rattle.refine_calls.specs.pisa_isa.Loaded.{statics_at}
use Rattle.refine_calls.specs.roopl_semantics.Store.{Value, Word, Nil, Name, Head, OfClass, OfInts, OfObjects, State}
use Rattle.refine_calls.specs.roopl_semantics.Store.{main_name}
use Rattle.refine_calls.specs.roopl_semantics.Store.{object_at}
use Rattle.refine_calls.specs.roopl_semantics.Value.{Cell, Slot, Part, cell_named, slot_of, slot_or_field}
use Rattle.refine_calls.specs.roopl_semantics.Value.{variable_value, read}
use Rattle.refine_calls.specs.roopl_semantics.Layout.{head_word, no_placing}
use Rattle.refine_calls.specs.roopl_semantics.Execution.{Setting}
use Rattle.refine_calls.specs.meaning_sound.Sound.{head_of, head_named, head_fits, named_fits, is_of_kind, cell_kinds}
use Rattle.refine_calls.specs.meaning_sound.Sound.{cell_kind}
use Rattle.refine_calls.specs.meaning_sound.Sound.{part_kind}
use Rattle.refine_calls.proofs.meaning_sound_laws.Classes.{KnowsClasses}
use Rattle.refine_calls.proofs.meaning_sound_laws.Lists.{all_length}
use Rattle.refine_calls.proofs.meaning_sound_laws.Names.{type_at, local_kind_is, field_number_is}
use Rattle.refine_calls.proofs.meaning_sound_laws.Stores.{other_number, live_object}
use Rattle.refine_calls.proofs.meaning_sound_laws.Cells.{read_fits}
use Rattle.refine_calls.proofs.meaning_sound_laws.Regions.{region_inside}
use Rattle.refine_calls.proofs.meaning_sound_laws.Values.{variable_fits, IsArray, array_head, same_elements}
use Rattle.expr_uncompute.proofs.refine_frame_laws.Memory.{base_above}
use Rattle.expr_uncompute.proofs.refine_frame_laws.Tells.{reference_read, read_head}
use Rattle.expr_uncompute.specs.code_scope.Visible.{word_named}
use Rattle.refine_calls.specs.refine_form.declared.spot.Spot.{Spot}
use Rattle.refine_calls.specs.refine_form.declared.spot.Spot.TheVariants.{Field, Frame}
use Rattle.refine_calls.specs.refine_form.Form.{Scope}
use Rattle.refine_calls.specs.refine_form.Frames.{Under, base, stack_base, address_of, value_word, stack_words}
use Rattle.refine_calls.specs.refine_form.Stands.{shape_of, extra, setup, Reads}
use Rattle.expr_uncompute.specs.register_expressions.Number.{Bases, spot_address as spot_address}
use Rattle.expr_uncompute.specs.Means.{shown, cell_address}
use Rattle.refine_expressions.specs.Typing.{visible_spot, free_in_scope}
use Rattle.refine_expressions.proofs.Names.{var_name, word_at, word_is}
use Rattle.refine_calls.proofs.Bridge.{shape_names, as_many_vars, typed}
use Rattle.refine_calls.proofs.MovesFit.{frame_address, place_of}
use Rattle.refine_calls.proofs.FactsMoves.{same_means}
use Rattle.refine_expressions.proofs.FrameReads.{object_is, memory_is, cell_word, cell_low}

module _ (setting : Setting) (statics : List ℕ) (classes : KnowsClasses setting.program) (s : Scope) (u : Under)
    (st : State) (cells : List ℕ) (h : Reads setting statics s u [] st cells) where
  abbrev pub bases : Bases
  bases = record { object = u.object; frame = frame_address setting statics u }

  -- the addresses of objects and arrays by their object ids, and of variables by their words of the
  -- frame
  abbrev pub names_at : ℕ → ℕ
  names_at n = address_of setting statics (unwrap_or (place setting.limits.heap st.log) no_placing) n

  abbrev pub slots_at : ℕ → ℕ
  slots_at i = frame_address setting statics u + (FIRST_VARIABLE + (length st.frame - 1 - i))

  abbrev pub program : Rattle.refine_calls.specs.rpp_tree.Tree.Source
  program = setting.program

  abbrev pub typing : Typing
  typing = setting_in setting.program (table_of setting.program) s.class

  abbrev pub shape : Locals
  shape = shape_of setting.program s

  abbrev pub at : Placing
  at = h.keeps.placed.at

  pub names_are : (n : ℕ) → names_at n ≡ address_of setting statics at n
  names_are n = ap (λ o. address_of setting statics (unwrap_or o no_placing) n) h.keeps.placed.placed

  -- the value of a cell of a type, as a word
  pub shown_read : (c : Cell) (k : Kind) → cell_kind program shape st.store c ≡ Some k
      → value_word setting statics at (read st c) ≡ shown names_at slots_at (read st c)
  shown_read c k has = by (read st c) refl
    where
      by : (v : Value) → read st c ≡ v → value_word setting statics at v ≡ shown names_at slots_at v
      by (Word w) e = refl
      by Nil e = refl
      by (Name n) e =
          let r = reference_read (setup setting statics) (extra u []) shape s.class st
          (typed setting statics s u [] st cells h) h.keeps.main_unheld c k n has e in
          ap (λ t. if t then statics_at else base setting statics + block_of at.blocks n)
          (sym (other_number n main_name r.no_main)) ∙ sym (names_are n)

  pub cell_at_word : (c : Cell) (k : Kind) → cell_kind program shape st.store c ≡ Some k
      → slice_index cells (place_of setting statics at u st c) ≡ shown names_at slots_at (read st c)
  cell_at_word c k has = cell_word setting statics s u st cells h c k has ∙ shown_read c k has

  -- ---- a variable

  module _ (name : Ident) (k : Kind) (t : variable_type typing shape name ≡ Ok k) where
    pub named_has : cell_kind program shape st.store (cell_named program st name.text) ≡ Some k
    named_has = variable_fits setting classes (extra u []) shape shape s.class h.keeps.class_inside (same_means shape)
        st name k (typed setting statics s u [] st cells h) t

    slot_here : slot_of st.frame name.text ≡ position (bytes_eq name.text) (map var_name s.vars)
    slot_here = ap (position (bytes_eq name.text)) h.frame.names_are

    word_here : (r : Option ℕ) → slot_of st.frame name.text ≡ r
        → word_named name.text s.vars ≡ option_map (word_at (length s.vars)) r
    word_here r e = word_is name.text s.vars ∙ ap (option_map (word_at (length s.vars))) (sym slot_here ∙ e)

    -- its spot by the place of its name
    abbrev spot_by : Option ℕ → Option ℕ → Spot
    spot_by word field = unwrap_or (option_or (option_map Frame word) (option_map Field field)) (Field 0)

    pub at_spot : spot_address bases (visible_spot program s name.text)
        ≡ place_of setting statics at u st (cell_named program st name.text)
    at_spot = by (slot_of st.frame name.text) refl
      where
        fields : slot_of st.frame name.text ≡ None → (r : Option ℕ) → field_in (table_of program) s.class name.text ≡ r
            → spot_address bases (spot_by None r) ≡ place_of setting statics at u st
            (slot_or_field program st name.text None)
        fields e (Some i) is =
            let own = field_number_is setting classes (extra u []) shape shape s.class h.keeps.class_inside
            (same_means shape) st name.text i (typed setting statics s u [] st cells h) is in
            let o = object_is setting statics s u st cells h in
            let z : u.object + (HEADER_WORDS + i) ≡ address_of setting statics at st.self + (HEADER_WORDS + i) =
            omega (arith, o) in
            z ∙ ap (λ f. place_of setting statics at u st (Part st.self (unwrap_or f 0))) (sym own)
        fields e None is = absurd (let q = some_of (kind_in typing shape name.text) (unknown_name name.at) k t in
            let z = nothing in cc)
          where
            no_local : local_kind shape name.text ≡ None
            no_local = local_kind_is shape name.text ∙ ap (type_at shape)
                (ap (position (bytes_eq name.text)) (shape_names program s.vars) ∙ sym slot_here ∙ e)

            nothing : kind_in typing shape name.text ≡ None
            nothing = ap (λ z. option_or z (field_kind (table_of program) s.class name.text)) no_local
                ∙ ap (option_map (kind_at (table_of program) s.class)) is

        by : (r : Option ℕ) → slot_of st.frame name.text ≡ r
            → spot_address bases (visible_spot program s name.text)
            ≡ place_of setting statics at u st (slot_or_field program st name.text (slot_of st.frame name.text))
        by (Some i) e =
            let n = as_many_vars setting statics s u [] st cells h in
            let z : frame_address setting statics u + (FIRST_VARIABLE + (length s.vars - 1 - i))
            ≡ frame_address setting statics u + (FIRST_VARIABLE + (length st.frame - 1 - i)) = omega (arith, n) in
            ap (λ w. spot_address bases (spot_by w (field_in (table_of program) s.class name.text)))
            (word_here (Some i) e)
            ∙ z
            ∙ ap (λ r. place_of setting statics at u st (slot_or_field program st name.text r)) (sym e)
        by None e =
            ap (λ w. spot_address bases (spot_by w (field_in (table_of program) s.class name.text))) (word_here None e)
            ∙ fields e (field_in (table_of program) s.class name.text) refl
            ∙ ap (λ r. place_of setting statics at u st (slot_or_field program st name.text r)) (sym e)

    -- it is below the free words
    pub name_low : spot_address bases (visible_spot program s name.text) < frame_address setting statics u +
        free_in_scope program
        s
    name_low =
        let l = cell_low setting statics s u st cells h (cell_named program st name.text) k named_has in
        let e = at_spot in
        omega (arith, e, l)

    -- its word is its value's
    pub name_word : slice_index cells (spot_address bases (visible_spot program s name.text))
        ≡ shown names_at slots_at (variable_value program st name.text)
    name_word = ap (slice_index cells) at_spot ∙ cell_at_word (cell_named program st name.text) k named_has

    -- its address is that of its cell
    pub name_place : spot_address bases (visible_spot program s name.text)
        ≡ cell_address names_at slots_at (cell_named program st name.text)
    name_place = at_spot ∙ by (cell_named program st name.text)
      where
        by : (c : Cell) → place_of setting statics at u st c ≡ cell_address names_at slots_at c
        by (Slot i) = refl
        by (Part n i) = let e : address_of setting statics at n + (HEADER_WORDS + i)
            ≡ address_of setting statics at n + i + HEADER_WORDS =
            omega arith in e ∙ ap (λ a. a + i + HEADER_WORDS) (sym (names_are n))

  -- ---- an array

  pub record ArrayStands (n : ℕ) (k : Kind) : Type 0 where
    pub apart : names_at n ≢ 0
    pub length_word : slice_index cells (names_at n) ≡ length (object_at st.store n).cells
    pub elements : (i : ℕ) → i < length (object_at st.store n).cells
        → slice_index cells (names_at n + i + HEADER_WORDS) ≡ shown names_at slots_at (read st (Part n i))
    pub low : names_at n + HEADER_WORDS + length (object_at st.store n).cells ≤ stack_base setting statics

  -- an object id that is in a cell of a type of arrays
  pub array_stands : (c : Cell) (array k : Kind) (n : ℕ) → cell_kind program shape st.store c ≡ Some array
      → element_kind array ≡ Some k → read st c ≡ Name n → ArrayStands n k
  array_stands c array k n has e reads =
      let x = setup setting statics in
      let t = typed setting statics s u [] st cells h in
      let r = reference_read x (extra u []) shape s.class st t h.keeps.main_unheld c array n has reads in
      let o = object_at st.store n in
      let live = live_object st.store n r.live in
      let head_is : head_named st.store n ≡ Some o.head = ap (option_map head_of) live in
      let fit : is_of_kind program st.store (Name n) array ≡ true =
      subst (λ v. is_of_kind program st.store v array ≡ true) reads
      (read_fits setting (extra u []) shape s.class st c array t has) in
      let headed : head_fits program array o.head ≡ true = ap (named_fits program array) (sym head_is) ∙ fit in
      let is = array_head program array k o.head e headed in
      let cells_count : length o.cells ≡ is.count = all_length program st.store (cell_kinds program o.head) o.cells
      (h.keeps.objects n o live) ∙ ap (length {A = Kind}) is.kinds ∙ length-replicate is.count k in
      let head_read = read_head x (extra u []) shape s.class st t h.keeps.main_unheld h.keeps.grounded
      (stack_words setting statics at u st.frame []) n r.live in
      let b : FIXED_CELLS + length statics ≤ base setting statics = base_above x in
      let region = region_inside setting st.store st.log h.keeps.placed n o.head head_is r.no_main in
      let where_is : names_at n ≡ base setting statics + block_of at.blocks n =
      names_are n ∙ ap (λ q. if q then statics_at else base setting statics + block_of at.blocks n)
      (other_number n main_name r.no_main) in
      let kinds_count : length (cell_kinds program o.head) ≡ is.count = ap (length {A = Kind}) is.kinds
      ∙ length-replicate is.count k in
      record {
        apart = λ z. omega (arith, where_is, z, b);
        length_word = ap (slice_index cells) (names_are n) ∙ ap (λ z. slice_index z (address_of setting statics at n))
            (memory_is setting statics s u st cells h) ∙ head_read ∙ array_word o.head array k e headed is
            ∙ sym cells_count;
        elements = λ i l.
            let kind_is : cell_kind program shape st.store (Part n i) ≡ Some k = ap (λ z. part_kind program z i) head_is
            ∙ ap (λ ks. slice_get ks i) is.kinds ∙ same_elements k is.count i (omega (arith, cells_count, l)) in
            let p : names_at n + i + HEADER_WORDS ≡ address_of setting statics at n + (HEADER_WORDS + i) =
            (let q = names_are n in omega (arith, q)) in
            ap (slice_index cells) p ∙ cell_at_word (Part n i) k kind_is;
        low = omega (arith, where_is, region, kinds_count, cells_count);
      }
    where
      array_word : (hd : Head) (array k : Kind) → element_kind array ≡ Some k → head_fits program array hd ≡ true
          → (is : IsArray program k hd) → head_word program hd ≡ is.count
      array_word (OfClass c) kind.Int k e f is = absurd (cc)
      array_word (OfClass c) kind.Nil k e f is = absurd (cc)
      array_word (OfClass c) (kind.Class d) k e f is = absurd (cc)
      array_word (OfClass c) kind.IntArray k e f is = absurd (cc)
      array_word (OfClass c) (kind.ClassArray d) k e f is = absurd (cc)
      array_word (OfInts m) array k e f is = sym (length-replicate m kind.Int) ∙ ap (length {A = Kind}) is.kinds
          ∙ length-replicate is.count k
      array_word (OfObjects c m) array k e f is = sym (length-replicate m (kind.Class c))
          ∙ ap (length {A = Kind}) is.kinds ∙ length-replicate is.count k
