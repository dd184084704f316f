-- The memory of a frame that holds an object of zeros which nothing names: that without it, with
-- two words written in a block of zeros.
use Rattle.std.proofs.Common.{◌≡◌, ◌≢◌, ◌∙◌, sym, ap, subst, refl, ℕ, ◌+◌, ◌-◌, ◌*◌, ◌<◌, ◌≤◌, ◌⊎◌, inl, inr, ⊎_elim}
use Rattle.std.proofs.Common.{Bool, true, false, List, [], ◌++◌, map, length, Some, arith, append-nil}
use Rattle.std.proofs.Common.{length-append}
use Rattle.std.proofs.lemmas.Bool.{eqb-true}
use Rattle.std.proofs.lemmas.List.{length-map, length-replicate}
use Rattle.std.specs.Prelude.{nat_eq, slice_index, slice_set, replicate, if◌then◌else◌}
use Rattle.object_codegen.specs.pisa_isa.Loaded.{statics_at}
use Rattle.object_codegen.specs.code_conventions.Header.{header}
use Rattle.std.specs.Option.{option_map}
use Rattle.object_codegen.specs.rpp_words.declared.input.TheConstants.{FRAME_WORDS, FIXED_CELLS}
use Rattle.object_codegen.specs.code_conventions.declared.memory.TheConstants.{HEADER_WORDS, COUNT_WORD}
use Rattle.object_codegen.specs.class_rules.declared.kind.Kind.{Kind}
use Rattle.object_codegen.specs.rpp_tree.Tree.{Source}
use Rattle.object_codegen.specs.buddy_book.Place.{Placing, block_of, without_name}
use Rattle.object_codegen.proofs.buddy_book_laws.Requests.{block_of_other}
use Rattle.object_codegen.specs.roopl_semantics.Store.{Object, Binding, State, main_name, object_at, without}
use Rattle.object_codegen.specs.roopl_semantics.Value.{Cell, Slot, Part}
use Rattle.object_codegen.specs.roopl_semantics.Execution.{Setting, all_zero}
use Rattle.object_codegen.specs.roopl_semantics.Layout.{word_of_value, head_word, object_words}
use Rattle.object_codegen.specs.meaning_sound.Sound.{head_of, is_live, cell_kinds, cell_kind, held, head_named, Typed}
use Rattle.object_codegen.proofs.meaning_sound_laws.Lists.{all_length}
use Rattle.object_codegen.proofs.meaning_sound_laws.Stores.{live_object, differs}
use Rattle.object_codegen.proofs.meaning_sound_laws.Cells.{IsPart, part_of}
use Rattle.object_codegen.proofs.meaning_sound_laws.Regions.{region_inside, regions_apart}
use Rattle.object_codegen.specs.refine_frame.Open.{Setup}
use Rattle.object_codegen.proofs.refine_frame_laws.Heaps.{length_words}
use Rattle.object_codegen.proofs.refine_frame_laws.Memory.{base_above, main_cells}
use Rattle.object_codegen.proofs.refine_frame_laws.Making.{made_memory, block_is_zero}
use Rattle.object_codegen.specs.refine_form.Form.{Scope}
use Rattle.object_codegen.specs.refine_form.Frames.{Under, base, stack_base, memory, before_stack, filled_to, values_of}
use Rattle.object_codegen.specs.refine_form.Frames.{frame_words, callers_words, stack_words, address_of, CallersStand, OpenFrame}
use Rattle.object_codegen.specs.refine_form.Stands.{shape_of, extra, setup, Kept}
use Rattle.refine_expressions.proofs.refine_calls_laws.FramesFit.{length_callers, length_frame}
use Rattle.refine_expressions.proofs.refine_calls_laws.Bridge.{typed_by, long_by, same_memory}
use Rattle.refine_expressions.proofs.refine_calls_laws.MovesFit.{place_of}
use Rattle.refine_objects.proofs.Elsewhere.{Avoids, stack_same}
use Rattle.refine_objects.proofs.Overlaid.{zeros_words, filled_over}

module _ (setting : Setting) (statics : List ℕ) (s : Scope) (u : Under) (st : State) (cells : List ℕ)
    (k : Kept setting statics s u [] st) (f : OpenFrame setting statics s u [] st cells) (n : ℕ)
    (live : is_live st.store n ≡ true) (no_main : n ≢ main_name) (unheld : held n st ≡ 0) where
  abbrev P : Source
  P = setting.program

  abbrev X : Setup
  X = setup setting statics

  abbrev t : Typed setting (extra u []) (shape_of setting.program s) s.class st
  t = typed_by setting statics s u [] st k [] cells f

  abbrev at : Placing
  at = k.placed.at

  -- the same book without its block
  abbrev pub less : Placing
  less = record { book = k.placed.at.book; blocks = without_name k.placed.at.blocks n }

  abbrev pub block : ℕ
  block = base setting statics + block_of k.placed.at.blocks n

  abbrev pub mark : ℕ
  mark = head_word setting.program (object_at st.store n).head

  abbrev pub fields : ℕ
  fields = length (object_at st.store n).cells

  abbrev stack : List ℕ
  stack = stack_words setting statics k.placed.at u st.frame []

  -- the memory without it, with the same words of the stack
  abbrev pub bare : List ℕ
  bare = memory setting statics (record { book = k.placed.at.book; blocks = without_name k.placed.at.blocks n })
      (without st.store n) (stack_words setting statics (record
      { book = k.placed.at.book; blocks = without_name k.placed.at.blocks n }) u st.frame [])

  named : head_named st.store n ≡ Some (object_at st.store n).head
  named = ap (option_map head_of) (live_object st.store n live)

  sized : length (object_at st.store n).cells ≡ length (cell_kinds setting.program (object_at st.store n).head)
  sized = all_length setting.program st.store (cell_kinds setting.program (object_at st.store n).head)
      (object_at st.store n).cells (k.objects n (object_at st.store n) (live_object st.store n live))

  long : length (object_words setting.program (base setting statics) at.blocks (object_at st.store n))
      ≡ HEADER_WORDS + length (object_at st.store n).cells
  long = length_words setting.program (base setting statics) at.blocks (object_at st.store n)

  -- the block lies in the heap
  pub block_inside : block + (HEADER_WORDS + fields) ≤ stack_base setting statics
  block_inside = let r = region_inside setting st.store st.log k.placed n (object_at st.store n).head named no_main in
      omega (arith, r, sized)

  pub block_above : FIXED_CELLS + length statics ≤ block
  block_above = let b = base_above X in omega (arith, b)

  same_at : k.placed.at ≡ f.at
  same_at = let e : Some k.placed.at ≡ Some f.at = sym k.placed.placed ∙ f.placed in cc

  callers_stand : CallersStand setting statics at st.store u.callers
  callers_stand = subst (λ (a : Placing). CallersStand setting statics a st.store u.callers) (sym same_at)
      f.callers_stand

  stack_long : length stack ≡ FRAME_WORDS * st.depth
  stack_long =
      let c = length_callers setting statics at st.store u.callers callers_stand in
      let o = length_frame setting statics at u.put_by (values_of setting statics st.frame) f.put_long
      (let e = length-map st.frame (λ (b : Binding). b.value) in let q = f.few in omega (arith, e, q)) in
      let a = length-append (callers_words setting statics at u.callers)
      (frame_words setting statics at u.put_by (values_of setting statics st.frame) ++ []) in
      let b = ap (length {A = ℕ}) (append-nil (frame_words setting statics at u.put_by
      (values_of setting statics st.frame))) in
      let d = f.depth_is in
      omega (arith, a, b, c, o, d)

  fits : length stack ≤ FRAME_WORDS * setting.limits.deep
  fits = let l = stack_long in let i = f.in_depth in omega (arith, l, i)

  cells_are : cells ≡ memory setting statics at st.store stack
  cells_are = f.cells_are ∙ ap (λ (a : Placing). memory setting statics a st.store
      (stack_words setting statics a u st.frame [])) (sym same_at)

  pub cells_long : length cells ≡ stack_base setting statics + FRAME_WORDS * setting.limits.deep
  cells_long =
      let a = length-append (before_stack setting statics at st.store)
      (filled_to setting statics (FRAME_WORDS * setting.limits.deep) stack) in
      let b = length-append stack (replicate (FRAME_WORDS * setting.limits.deep - length stack) 0) in
      let c = length-replicate {A = ℕ} (FRAME_WORDS * setting.limits.deep - length stack) 0 in
      let d : length (before_stack setting statics at st.store) ≡ stack_base setting statics =
      subst (λ (a : Placing). length (before_stack setting statics a st.store) ≡ stack_base setting statics)
      (sym same_at) (long_by setting statics s u [] st k [] cells f) in
      let l = fits in
      let z = ap (length {A = ℕ}) cells_are in
      omega (arith, a, b, c, d, l, z)

  module _ (avoids : Avoids n u.callers) where
    stacks : stack_words setting statics less u st.frame [] ≡ stack
    stacks = stack_same setting statics at less n (λ m e. block_of_other at.blocks n m e) u st.frame
        (omega (arith, unheld)) avoids

    bare_is : bare ≡ memory setting statics less (without st.store n) stack
    bare_is = ap (memory setting statics less (without st.store n)) stacks

    over : cells ≡ Rattle.object_codegen.specs.roopl_semantics.Layout.overlaid bare block
        (object_words setting.program (base setting statics) at.blocks (object_at st.store n))
    over =
        let w = object_words setting.program (base setting statics) at.blocks (object_at st.store n) in
        cells_are ∙ sym (same_memory setting statics at st.store stack fits)
        ∙ made_memory X (extra u []) (shape_of setting.program s) s.class st t k.grounded n live no_main unheld stack
        ∙ ap (λ z. Rattle.object_codegen.specs.roopl_semantics.Layout.overlaid z block w)
        (same_memory setting statics less (without st.store n) stack fits ∙ sym bare_is)

    bare_long : length bare ≡ length cells
    bare_long = sym (ap length over ∙ Rattle.object_codegen.proofs.meaning_sound_laws.Overlays.length_overlaid bare block
        (object_words setting.program (base setting statics) at.blocks (object_at st.store n)))

    -- all is zero in its block
    pub bare_zero : (i : ℕ) → i < HEADER_WORDS + fields → slice_index bare (block + i) ≡ 0
    bare_zero i l =
        ap (λ z. slice_index z (block + i)) (bare_is ∙ sym (same_memory setting statics less (without st.store n) stack
        fits))
        ∙ block_is_zero X (extra u []) (shape_of setting.program s) s.class st t k.grounded n live no_main unheld stack
        i (omega (arith, long, l))

    -- and its two first words are written
    pub written_over : (object_at st.store n).count ≡ 1 → all_zero (object_at st.store n).cells ≡ true
        → cells ≡ slice_set (slice_set bare block mark) (block + COUNT_WORD) 1
    written_over single empty =
        let ws = map (word_of_value (base setting statics) at.blocks) (object_at st.store n).cells in
        let few : length ws ≡ fields = length-map (object_at st.store n).cells
        (word_of_value (base setting statics) at.blocks) in
        let l = cells_long in
        let i = block_inside in
        over
        ∙ ap (λ c. Rattle.object_codegen.specs.roopl_semantics.Layout.overlaid bare block (header mark c ++ ws)) single
        ∙ filled_over bare ws block mark (omega (arith, l, i, few, bare_long))
        (zeros_words (base setting statics) at.blocks (object_at st.store n).cells empty)
        (λ j q. bare_zero j (omega (arith, q, few)))

  -- a cell of another object, or of the frame, is outside the block
  pub cell_outside : (c : Cell) (kd : Kind) → cell_kind setting.program (shape_of setting.program s) st.store c
      ≡ Some kd → ((m i : ℕ) → c ≡ Part m i → n ≢ m) → (place_of setting statics at u st c < block)
      ⊎ (block + (HEADER_WORDS + fields) ≤ place_of setting statics at u st c)
  cell_outside (Slot i) kd has other = inr (let b = block_inside in omega (arith, b))
  cell_outside (Part m i) kd has other = by (nat_eq m main_name) refl
    where
      part : IsPart setting.program st.store m i kd
      part = part_of setting.program st.store m i kd has

      inside : i < length (cell_kinds setting.program part.object.head)
      inside = Rattle.std.proofs.lemmas.Option.slice_get_within (cell_kinds setting.program part.object.head) i kd
          part.kind_is

      part_sized : length (object_at st.store m).cells ≡ length (cell_kinds setting.program part.object.head)
      part_sized = ap (λ (o : Object). length o.cells) part.at
          ∙ all_length setting.program st.store (cell_kinds setting.program part.object.head) part.object.cells
          (k.objects m part.object part.named)

      by : (b : Bool) → nat_eq m main_name ≡ b → (place_of setting statics at u st (Part m i) < block)
          ⊎ (block + (HEADER_WORDS + fields) ≤ place_of setting statics at u st (Part m i))
      by true e =
          let same = eqb-true m main_name e in
          let a : address_of setting statics at m ≡ statics_at = ap (address_of setting statics at) same in
          let b = block_above in
          let c = main_cells X (extra u []) (shape_of setting.program s) s.class st t k.grounded in
          let r = k.grounded.room in
          let l : length (object_at st.store main_name).cells ≡ length (object_at st.store m).cells =
          ap (λ k. length (object_at st.store k).cells) (sym same) in
          inl (omega (arith, a, b, c, r, l, part_sized, inside))
      by false e =
          let apart = differs m main_name e in
          let a : address_of setting statics at m ≡ base setting statics + block_of at.blocks m =
          ap (λ t. if t then statics_at else base setting statics + block_of at.blocks m) e in
          let r = regions_apart setting st.store st.log k.placed n m (object_at st.store n).head part.object.head named
          (ap (option_map head_of) part.named) no_main apart (other m i refl) in
          let z = sized in
          ⊎_elim (λ q. inr (omega (arith, a, q, z))) (λ q. inl (omega (arith, a, q, z, inside))) r
