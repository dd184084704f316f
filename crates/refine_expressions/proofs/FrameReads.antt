-- The words of a current frame with no values above it: what its cells hold, and the free words
-- after its variables.
use Rattle.std.proofs.Common.{◌≡◌, ℕ, ◌+◌, ◌-◌, ◌*◌, ◌<◌, ◌≤◌, List, [], ◌++◌, length, sym, ap, ◌∙◌, subst, arith}
use Rattle.std.proofs.Common.{length-append}
use Rattle.std.proofs.lemmas.List.{get_or-replicate, length-replicate, length-map}
use Rattle.std.specs.Prelude.{replicate, slice_index, Some}
use Rattle.refine_calls.specs.code_conventions.declared.memory.TheConstants.{FIRST_VARIABLE}
use Rattle.refine_calls.specs.rpp_words.declared.input.TheConstants.{FRAME_WORDS}
use Rattle.refine_calls.specs.class_rules.declared.kind.Kind.{Kind}
use Rattle.refine_calls.specs.buddy_book.Place.{Placing}
use Rattle.refine_calls.specs.roopl_semantics.Store.{Binding, State}
use Rattle.refine_calls.specs.roopl_semantics.Value.{Cell, read}
use Rattle.refine_calls.specs.roopl_semantics.Execution.{Setting}
use Rattle.refine_calls.specs.meaning_sound.Sound.{cell_kind}
use Rattle.expr_uncompute.specs.refine_frame.Open as open_frame
use Rattle.refine_calls.specs.refine_form.Form.{Scope}
use Rattle.refine_calls.specs.refine_form.Frames.{Under, stack_base, address_of, value_word, values_of, value_words}
use Rattle.refine_calls.specs.refine_form.Frames.{callers_words, stack_words, before_stack}
use Rattle.refine_calls.specs.refine_form.Stands.{shape_of, setup, Reads}
use Rattle.refine_calls.proofs.FramesFit.{length_values}
use Rattle.refine_calls.proofs.SlotMoves.{below, behind, split, get_left, get_right}
use Rattle.refine_calls.proofs.Bridge.{same_at, same_memory, as_many_vars, callers_long, before_long, stack_fits}
use Rattle.refine_calls.proofs.MovesFit.{frame_address, place_of, frame_read, frame_long, cell_low as cell_below}

module _ (setting : Setting) (statics : List ℕ) (s : Scope) (u : Under) (st : State) (cells : List ℕ)
    (h : Reads setting statics s u [] st cells) where
  abbrev pub at : Placing
  at = h.keeps.placed.at

  pub cell_word : (c : Cell) (k : Kind) → cell_kind setting.program (shape_of setting.program s) st.store c ≡ Some k
      → slice_index cells (place_of setting statics at u st c) ≡ value_word setting statics at (read st c)
  cell_word c k has =
      subst (λ (a : Placing). slice_index cells (place_of setting statics a u st c)
      ≡ value_word setting statics a (read st c)) (sym (same_at setting statics s u [] st cells h))
      (frame_read setting statics s u [] st cells h c k has)

  -- a cell is below the free words
  pub cell_low : (c : Cell) (k : Kind) → cell_kind setting.program (shape_of setting.program s) st.store c ≡ Some k
      → place_of setting statics at u st c < frame_address setting statics u + (FIRST_VARIABLE + length s.vars)
  cell_low c k has =
      subst (λ (a : Placing). place_of setting statics a u st c < frame_address setting statics u +
      (FIRST_VARIABLE + length s.vars)) (sym (same_at setting statics s u [] st cells h))
      (let l = cell_below setting statics s u [] st cells h c k has in
      let n = as_many_vars setting statics s u [] st cells h in omega (arith, l, n))

  pub all_cells : length cells ≡ stack_base setting statics + FRAME_WORDS * setting.limits.deep
  all_cells = frame_long setting statics s u [] st cells h

  pub in_cells : frame_address setting statics u + FRAME_WORDS ≤ length cells
  in_cells = let l = all_cells in let d = h.frame.depth_is in let i = h.frame.in_depth in omega (arith, l, d, i)

  -- the current object
  pub object_is : u.object ≡ address_of setting statics at st.self
  object_is =
      sym h.frame.stands.1 ∙ ap (address_of setting statics h.frame.at) (sym h.frame.self_is)
      ∙ ap (λ (a : Placing). address_of setting statics a st.self) (sym (same_at setting statics s u [] st cells h))

  -- the memory, in the form of one current frame
  pub memory_is : cells ≡ open_frame.memory (setup setting statics) at st.store
      (stack_words setting statics at u st.frame [])
  memory_is =
      subst (λ (a : Placing). cells ≡ open_frame.memory (setup setting statics) a st.store
      (stack_words setting statics a u st.frame [])) (sym (same_at setting statics s u [] st cells h))
      (h.frame.cells_are ∙ sym (same_memory setting statics h.frame.at st.store
      (stack_words setting statics h.frame.at u st.frame []) (stack_fits setting statics s u [] st cells h)))

  abbrev cl : length (callers_words setting statics h.frame.at u.callers) ≡ FRAME_WORDS * length u.callers
  cl = callers_long setting statics s u [] st cells h

  abbrev low_words : List ℕ
  low_words = below setting statics h.frame.at st.store u.callers u.put_by h.frame.put_long cl []

  abbrev own_words : List ℕ
  own_words = value_words setting statics h.frame.at (values_of setting statics st.frame)

  long_low : length low_words ≡ frame_address setting statics u + FIRST_VARIABLE
  long_low =
      let a = length-append (before_stack setting statics h.frame.at st.store
      ++ callers_words setting statics h.frame.at u.callers) u.put_by in
      let b = length-append (before_stack setting statics h.frame.at st.store)
      (callers_words setting statics h.frame.at u.callers) in
      let c = before_long setting statics s u [] st cells h in
      let d = cl in
      let e = h.frame.put_long in
      omega (arith, a, b, c, d, e)

  long_own : length own_words ≡ length st.frame
  long_own = length_values setting statics h.frame.at (values_of setting statics st.frame)
      ∙ length-map st.frame (λ (b : Binding). b.value)

  -- the words after the variables are free
  pub free_words : (a : ℕ) → frame_address setting statics u + (FIRST_VARIABLE + length s.vars) ≤ a
      → a < frame_address setting statics u + FRAME_WORDS → slice_index cells a ≡ 0
  free_words a lo hi =
      let n = as_many_vars setting statics s u [] st cells h in
      let rest = behind setting statics h.frame.at st.store u.callers u.put_by h.frame.put_long cl [] (length st.frame)
      in
      let i = a - (frame_address setting statics u + (FIRST_VARIABLE + length st.frame)) in
      let k = FRAME_WORDS - (FIRST_VARIABLE + length st.frame) in
      let zeros : List ℕ = replicate (FRAME_WORDS * setting.limits.deep -
      (FRAME_WORDS * length u.callers + (FRAME_WORDS + 0))) 0 in
      let there : i < k = omega (arith, n, lo, hi) in
      let z = length-replicate {A = ℕ} k 0 in
      let first : a ≡ length low_words + (length st.frame + i) = (let l = long_low in omega (arith, l, n, lo)) in
      let second : length st.frame + i ≡ length own_words + i = (let l = long_own in omega (arith, l)) in
      ap (λ c. slice_index c a) (h.frame.cells_are ∙ split setting statics h.frame.at st.store u.callers u.put_by
      h.frame.put_long cl [] st.frame h.frame.few)
      ∙ get_right low_words (own_words ++ rest) a (length st.frame + i) first
      ∙ get_right own_words rest (length st.frame + i) i second
      ∙ get_left (replicate k 0) zeros i (omega (arith, z, there))
      ∙ get_or-replicate k i 0 0 there
