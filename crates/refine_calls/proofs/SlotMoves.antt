-- The words of variables and of the frame above, in the memory of a current frame.
use Rattle.std.proofs.Common.{◌≡◌, ◌≢◌, ℕ, zero, suc, ◌+◌, ◌-◌, ◌*◌, ◌<◌, ◌≤◌, true, false, List, [], ◌∷◌, ◌++◌, length}
use Rattle.std.proofs.Common.{map, replicate, refl, sym, ap, ◌∙◌, arith, append-nil, append_assoc, length-append}
use Rattle.std.specs.Prelude.{slice_index, slice_set}
use Rattle.std.proofs.lemmas.Bool.Decides.{nat_tests}
use Rattle.std.proofs.lemmas.List.{replicate-append-replicate}
use Rattle.method_calls.specs.code_conventions.declared.memory.TheConstants.{FIRST_VARIABLE, MOST_VARIABLES}
use Rattle.buddy_pisa.specs.rpp_words.declared.input.TheConstants.{FRAME_WORDS}
use Rattle.buddy_pisa.specs.buddy_book.Place.{Placing}
use Rattle.method_calls.specs.roopl_semantics.Store.{Value, Word, Nil, Name, Binding, Store, is_zero, cleared}
use Rattle.method_calls.specs.roopl_semantics.Value.{with_value, value_at}
use Rattle.method_calls.specs.roopl_semantics.Execution.{Setting}
use Rattle.method_calls.specs.refine_form.Frames.{CallerFrame, Under, base, stack_base, value_word, values_of, value_words}
use Rattle.method_calls.specs.refine_form.Frames.{frame_words, callers_words, above_words, stack_words, memory, before_stack}
use Rattle.refine_calls.proofs.FramesFit.{frame_at, length_values, length_map, length_frame}

-- ---- lists

pub set_right : (xs ys : List ℕ) (n k z : ℕ) → n ≡ length xs + k → slice_set (xs ++ ys) n z ≡ xs ++ slice_set ys k z
set_right [] ys n k z e = let q : n ≡ k = omega (arith, e) in ap (λ i. slice_set ys i z) q
set_right (x ∷ xs) ys zero k z e = absurd (omega (arith, e))
set_right (x ∷ xs) ys (suc n) k z e = ap (λ l. x ∷ l) (set_right xs ys n k z (omega (arith, e)))

pub get_right : (xs ys : List ℕ) (n k : ℕ) → n ≡ length xs + k → slice_index (xs ++ ys) n ≡ slice_index ys k
get_right [] ys n k e = let q : n ≡ k = omega (arith, e) in ap (slice_index ys) q
get_right (x ∷ xs) ys zero k e = absurd (omega (arith, e))
get_right (x ∷ xs) ys (suc n) k e = get_right xs ys n k (omega (arith, e))

pub set_left : (xs ys : List ℕ) (n z : ℕ) → n < length xs → slice_set (xs ++ ys) n z ≡ slice_set xs n z ++ ys
set_left [] ys n z h = absurd (omega arith)
set_left (x ∷ xs) ys zero z h = refl
set_left (x ∷ xs) ys (suc n) z h = ap (λ l. x ∷ l) (set_left xs ys n z (omega arith))

pub get_left : (xs ys : List ℕ) (n : ℕ) → n < length xs → slice_index (xs ++ ys) n ≡ slice_index xs n
get_left [] ys n h = absurd (omega arith)
get_left (x ∷ xs) ys zero h = refl
get_left (x ∷ xs) ys (suc n) h = get_left xs ys n (omega arith)

module _ (setting : Setting) (statics : List ℕ) (at : Placing) where
  abbrev words : List Value → List ℕ
  words vs = value_words setting statics at vs

  abbrev word : Value → ℕ
  word v = value_word setting statics at v

  abbrev vals_in : List Binding → List Value
  vals_in frame = values_of setting statics frame

  length_words : (vs : List Value) → length (words vs) ≡ length vs
  length_words vs = length_values setting statics at vs

  length_vals : (frame : List Binding) → length (vals_in frame) ≡ length frame
  length_vals frame = length_map setting statics (λ (b : Binding). b.value) frame

  -- the word of a variable
  set_value : (frame : List Binding) (i : ℕ) (v : Value) → i < length frame
      → words (vals_in (with_value frame i v)) ≡ slice_set (words (vals_in frame)) (length frame - 1 - i) (word v)
  set_value [] i v h = absurd (omega arith)
  set_value (b ∷ frame) zero v h =
      let l = length_words (vals_in frame) in
      let m = length_vals frame in
      sym (set_right (words (vals_in frame)) (word b.value ∷ []) (length (b ∷ frame) - 1 - 0) 0 (word v)
      (omega (arith, l, m)))
  set_value (b ∷ frame) (suc i) v h =
      let l = length_words (vals_in frame) in
      let m = length_vals frame in
      let e : length frame - 1 - i ≡ length (b ∷ frame) - 1 - suc i = omega arith in
      ap (λ z. z ++ (word b.value ∷ [])) (set_value frame i v (omega arith))
      ∙ sym (set_left (words (vals_in frame)) (word b.value ∷ []) (length frame - 1 - i) (word v)
      (omega (arith, l, m, h)))
      ∙ ap (λ k. slice_set (words (vals_in (b ∷ frame))) k (word v)) e

  get_value : (frame : List Binding) (i : ℕ) → i < length frame
      → slice_index (words (vals_in frame)) (length frame - 1 - i) ≡ word (value_at frame i)
  get_value [] i h = absurd (omega arith)
  get_value (b ∷ frame) zero h =
      let l = length_words (vals_in frame) in
      let m = length_vals frame in
      get_right (words (vals_in frame)) (word b.value ∷ []) (length (b ∷ frame) - 1 - 0) 0 (omega (arith, l, m))
  get_value (b ∷ frame) (suc i) h =
      let l = length_words (vals_in frame) in
      let m = length_vals frame in
      let e : length (b ∷ frame) - 1 - suc i ≡ length frame - 1 - i = omega arith in
      ap (slice_index (words (vals_in (b ∷ frame)))) e ∙ get_left (words (vals_in frame)) (word b.value ∷ [])
      (length frame - 1 - i) (omega (arith, l, m, h)) ∙ get_value frame i (omega arith)

  pub length_with : (frame : List Binding) (i : ℕ) (v : Value) → length (with_value frame i v) ≡ length frame
  length_with [] i v = refl
  length_with (b ∷ frame) zero v = refl
  length_with (b ∷ frame) (suc i) v = ap suc (length_with frame i v)

  pub names_with : (frame : List Binding) (i : ℕ) (v : Value)
      → map (λ binding. binding.name) (with_value frame i v) ≡ map (λ binding. binding.name) frame
  names_with [] i v = refl
  names_with (b ∷ frame) zero v = refl
  names_with (b ∷ frame) (suc i) v = ap (λ l. b.name ∷ l) (names_with frame i v)

  -- ---- the memory, split after what is stored above the frame

  module _ (store : Store) (callers : List CallerFrame) (put_by : List ℕ) (put_long : length put_by ≡ FIRST_VARIABLE)
      (long_callers : length (callers_words setting statics at callers) ≡ FRAME_WORDS * length callers)
      (vals : List Value)
    where
      abbrev N : ℕ
      N = FRAME_WORDS * setting.limits.deep

      abbrev pub below : List ℕ
      below = (before_stack setting statics at store ++ callers_words setting statics at callers) ++ put_by

      -- after the variables of a frame of so many
      abbrev pub behind : ℕ → List ℕ
      behind n = replicate (FRAME_WORDS - (FIRST_VARIABLE + n)) 0 ++ (above_words setting statics at vals
          ++ replicate (N - (FRAME_WORDS * length callers + (FRAME_WORDS + length
          (above_words setting statics at vals)))) 0)

      abbrev stack_of : List Binding → List ℕ
      stack_of frame = callers_words setting statics at callers
          ++ (frame_words setting statics at put_by (vals_in frame) ++ above_words setting statics at vals)

      pub split : (frame : List Binding) → length frame ≤ MOST_VARIABLES
          → memory setting statics at store (stack_of frame) ≡ below ++ (words (vals_in frame) ++ behind (length frame))
      split frame few =
          let b = before_stack setting statics at store in
          let a = callers_words setting statics at callers in
          let w = words (vals_in frame) in
          let up = above_words setting statics at vals in
          let lw : length (put_by ++ w) ≡ FIRST_VARIABLE + length frame = length-append put_by w
          ∙ ap (λ k. k + length w) put_long
          ∙ ap (λ k. FIRST_VARIABLE + k) (length_words (vals_in frame) ∙ length_vals frame) in
          let lo : length (frame_words setting statics at put_by (vals_in frame)) ≡ FRAME_WORDS =
          length_frame setting statics at put_by (vals_in frame) put_long
          (let e = length_vals frame in omega (arith, e, few)) in
          let lall : length (stack_of frame) ≡ FRAME_WORDS * length callers + (FRAME_WORDS + length up) =
          length-append a (frame_words setting statics at put_by (vals_in frame) ++ up)
          ∙ ap (λ k. k + length (frame_words setting statics at put_by (vals_in frame) ++ up)) long_callers
          ∙ ap (λ k. FRAME_WORDS * length callers + k) (length-append
          (frame_words setting statics at put_by (vals_in frame))
          up ∙ ap (λ k. k + length up) lo) in
          let z = replicate (N - (FRAME_WORDS * length callers + (FRAME_WORDS + length up))) 0 in
          let inner : frame_words setting statics at put_by (vals_in frame) ++ up
          ≡ put_by ++ (w ++ (replicate (FRAME_WORDS - (FIRST_VARIABLE + length frame)) 0 ++ up)) =
          append_assoc (put_by ++ w) (replicate (FRAME_WORDS - length (put_by ++ w)) 0) up
          ∙ ap (λ k. (put_by ++ w) ++ (replicate (FRAME_WORDS - k) 0 ++ up)) lw
          ∙ append_assoc put_by w (replicate (FRAME_WORDS - (FIRST_VARIABLE + length frame)) 0 ++ up) in
          ap (λ k. b ++ (stack_of frame ++ replicate (N - k) 0)) lall
          ∙ ap (λ t. b ++ ((a ++ t) ++ z)) inner
          ∙ ap (λ t. b ++ t) (append_assoc a (put_by ++ (w ++
          (replicate (FRAME_WORDS - (FIRST_VARIABLE + length frame)) 0 ++ up))) z)
          ∙ sym (append_assoc b a ((put_by ++ (w ++ (replicate (FRAME_WORDS - (FIRST_VARIABLE + length frame)) 0
          ++ up))) ++ z))
          ∙ ap (λ t. (b ++ a) ++ t) (append_assoc put_by (w ++
          (replicate (FRAME_WORDS - (FIRST_VARIABLE + length frame)) 0 ++ up)) z)
          ∙ sym (append_assoc (b ++ a) put_by ((w ++ (replicate (FRAME_WORDS - (FIRST_VARIABLE + length frame)) 0
          ++ up)) ++ z))
          ∙ ap (λ t. below ++ t) (append_assoc w (replicate (FRAME_WORDS - (FIRST_VARIABLE + length frame)) 0 ++ up) z
          ∙ ap (λ t. w ++ t) (append_assoc (replicate (FRAME_WORDS - (FIRST_VARIABLE + length frame)) 0) up z))

      -- a variable's word is written
      pub slot_set : (frame : List Binding) (i : ℕ) (v : Value) (n : ℕ) → length frame ≤ MOST_VARIABLES
          → i < length frame
          → n ≡ length below + (length frame - 1 - i) → slice_set (memory setting statics at store (stack_of frame)) n
          (word v) ≡ memory setting statics at store (stack_of (with_value frame i v))
      slot_set frame i v n few there e =
          let lw : length (words (vals_in frame)) ≡ length frame = length_words (vals_in frame) ∙ length_vals frame in
          ap (λ m. slice_set m n (word v)) (split frame few)
          ∙ set_right below (words (vals_in frame) ++ behind (length frame)) n (length frame - 1 - i) (word v) e
          ∙ ap (λ t. below ++ t) (set_left (words (vals_in frame)) (behind (length frame)) (length frame - 1 - i)
          (word v)
          (omega (arith, lw, there)))
          ∙ ap (λ t. below ++ (t ++ behind (length frame))) (sym (set_value frame i v there))
          ∙ ap (λ k. below ++ (words (vals_in (with_value frame i v)) ++ behind k)) (sym (length_with frame i v))
          ∙ sym (split (with_value frame i v) (let l = length_with frame i v in omega (arith, l, few)))

      pub slot_get : (frame : List Binding) (i n : ℕ) → length frame ≤ MOST_VARIABLES → i < length frame
          → n ≡ length below + (length frame - 1 - i) → slice_index (memory setting statics at store (stack_of frame)) n
          ≡ word (value_at frame i)
      slot_get frame i n few there e =
          let lw : length (words (vals_in frame)) ≡ length frame = length_words (vals_in frame) ∙ length_vals frame in
          ap (λ m. slice_index m n) (split frame few)
          ∙ get_right below (words (vals_in frame) ++ behind (length frame)) n (length frame - 1 - i) e
          ∙ get_left (words (vals_in frame)) (behind (length frame)) (length frame - 1 - i) (omega (arith, lw, there))
          ∙ get_value frame i there

  -- ---- the memory, split in the frame above

  module _ (store : Store) (callers : List CallerFrame) (own : List ℕ) (long_own : length own ≡ FRAME_WORDS)
      (long_callers : length (callers_words setting statics at callers) ≡ FRAME_WORDS * length callers) where
    abbrev M : ℕ
    M = FRAME_WORDS * setting.limits.deep

    abbrev pub until : List ℕ
    until = before_stack setting statics at store ++ (callers_words setting statics at callers ++ own)

    abbrev moved_words : List Value → List ℕ
    moved_words vals = replicate FIRST_VARIABLE 0 ++ words vals

    abbrev left : List Value → ℕ
    left vals = M - (FRAME_WORDS * length callers + FRAME_WORDS + 17 + length vals)

    abbrev with_above : List Value → List ℕ
    with_above vals = callers_words setting statics at callers ++ (own ++ above_words setting statics at vals)

    regroup : (up z : List ℕ) → before_stack setting statics at store
        ++ ((callers_words setting statics at callers ++ (own ++ up)) ++ z) ≡ until ++ (up ++ z)
    regroup up z =
        let b = before_stack setting statics at store in
        let a = callers_words setting statics at callers in
        ap (λ t. b ++ (t ++ z)) (sym (append_assoc a own up)) ∙ ap (λ t. b ++ t) (append_assoc (a ++ own) up z)
        ∙ sym (append_assoc b (a ++ own) (up ++ z))

    long_above : (vals : List Value) → length (with_above vals)
        ≡ FRAME_WORDS * length callers + (FRAME_WORDS + length (above_words setting statics at vals))
    long_above vals =
        let a = callers_words setting statics at callers in
        length-append a (own ++ above_words setting statics at vals)
        ∙ ap (λ k. k + length (own ++ above_words setting statics at vals)) long_callers
        ∙ ap (λ k. FRAME_WORDS * length callers + k) (length-append own (above_words setting statics at vals)
        ∙ ap (λ k. k + length (above_words setting statics at vals)) long_own)

    long_moved : (vals : List Value) → length (moved_words vals) ≡ FIRST_VARIABLE + length vals
    long_moved vals = length-append (replicate {A = ℕ} FIRST_VARIABLE 0) (words vals)
        ∙ ap (λ k. FIRST_VARIABLE + k) (length_words vals)

    free_above : (vals : List Value) → length vals < 32 → FRAME_WORDS * length callers + 1024 ≤ M
        → memory setting statics at store (with_above vals)
        ≡ until ++ (moved_words vals ++ (0 ∷ replicate (left vals) 0))
    free_above [] few room =
        let l = long_above [] in
        let e : M - length (with_above []) ≡ FIRST_VARIABLE + suc (left []) = omega (arith, l, room) in
        regroup [] (replicate (M - length (with_above [])) 0)
        ∙ ap (λ t. until ++ t) (ap (λ k. replicate k 0) e ∙ sym
        (replicate-append-replicate FIRST_VARIABLE (suc (left [])) 0)
        ∙ ap (λ t. t ++ (0 ∷ replicate (left []) 0)) (sym (append-nil (replicate FIRST_VARIABLE 0))))
    free_above (y ∷ ys) few room =
        let l = long_above (y ∷ ys) in
        let m = long_moved (y ∷ ys) in
        let e : M - length (with_above (y ∷ ys)) ≡ suc (left (y ∷ ys)) = omega (arith, l, m, room, few) in
        regroup (moved_words (y ∷ ys)) (replicate (M - length (with_above (y ∷ ys))) 0)
        ∙ ap (λ k. until ++ (moved_words (y ∷ ys) ++ replicate k 0)) e

    one_above : (v : Value) (vals : List Value) → length vals < 32 → FRAME_WORDS * length callers + 1024 ≤ M
        → memory setting statics at store (with_above (v ∷ vals))
        ≡ until ++ (moved_words vals ++ (word v ∷ replicate (left vals) 0))
    one_above v vals few room =
        let l = long_above (v ∷ vals) in
        let m = long_moved (v ∷ vals) in
        let n : length (v ∷ vals) ≡ 1 + length vals = omega arith in
        let e : M - length (with_above (v ∷ vals)) ≡ left vals = omega (arith, l, m, n, room, few) in
        regroup (moved_words (v ∷ vals)) (replicate (M - length (with_above (v ∷ vals))) 0)
        ∙ ap (λ k. until ++ (moved_words (v ∷ vals) ++ replicate k 0)) e
        ∙ ap (λ t. until ++ t) (append_assoc (replicate FIRST_VARIABLE 0) (words vals ++ (word v ∷ []))
        (replicate (left vals) 0)
        ∙ ap (λ t. replicate FIRST_VARIABLE 0 ++ t) (append_assoc (words vals) (word v ∷ []) (replicate (left vals) 0))
        ∙ sym (append_assoc (replicate FIRST_VARIABLE 0) (words vals) (word v ∷ replicate (left vals) 0)))

    -- a word is put there, is read there, and goes
    pub above_set : (v : Value) (vals : List Value) (n : ℕ) → length vals < 32 → FRAME_WORDS * length callers + 1024 ≤ M
        → n ≡ length until + (FIRST_VARIABLE + length vals)
        → slice_set (memory setting statics at store (with_above vals)) n
        (word v) ≡ memory setting statics at store (with_above (v ∷ vals))
    above_set v vals n few room e =
        let m = long_moved vals in
        let z : FIRST_VARIABLE + length vals ≡ length (moved_words vals) + 0 = omega (arith, m) in
        ap (λ c. slice_set c n (word v)) (free_above vals few room)
        ∙ set_right until (moved_words vals ++ (0 ∷ replicate (left vals) 0)) n (FIRST_VARIABLE + length vals) (word v)
        e
        ∙ ap (λ t. until ++ t) (set_right (moved_words vals) (0 ∷ replicate (left vals) 0)
        (FIRST_VARIABLE + length vals) 0 (word v)
        z)
        ∙ sym (one_above v vals few room)

    pub above_zero_word : (vals : List Value) (n : ℕ) → length vals < 32 → FRAME_WORDS * length callers + 1024 ≤ M
        → n ≡ length until + (FIRST_VARIABLE + length vals)
        → slice_index (memory setting statics at store (with_above vals)) n ≡ 0
    above_zero_word vals n few room e =
        let m = long_moved vals in
        let z : FIRST_VARIABLE + length vals ≡ length (moved_words vals) + 0 = omega (arith, m) in
        ap (λ c. slice_index c n) (free_above vals few room)
        ∙ get_right until (moved_words vals ++ (0 ∷ replicate (left vals) 0)) n (FIRST_VARIABLE + length vals) e
        ∙ get_right (moved_words vals) (0 ∷ replicate (left vals) 0) (FIRST_VARIABLE + length vals) 0 z

    pub above_get : (v : Value) (vals : List Value) (n : ℕ) → length vals < 32 → FRAME_WORDS * length callers + 1024 ≤ M
        → n ≡ length until + (FIRST_VARIABLE + length vals)
        → slice_index (memory setting statics at store (with_above (v ∷ vals)))
        n ≡ word v
    above_get v vals n few room e =
        let m = long_moved vals in
        let z : FIRST_VARIABLE + length vals ≡ length (moved_words vals) + 0 = omega (arith, m) in
        ap (λ c. slice_index c n) (one_above v vals few room)
        ∙ get_right until (moved_words vals ++ (word v ∷ replicate (left vals) 0)) n (FIRST_VARIABLE + length vals) e
        ∙ get_right (moved_words vals) (word v ∷ replicate (left vals) 0) (FIRST_VARIABLE + length vals) 0 z

    pub above_clear : (v : Value) (vals : List Value) (n : ℕ) → length vals < 32
        → FRAME_WORDS * length callers + 1024 ≤ M
        → n ≡ length until + (FIRST_VARIABLE + length vals)
        → slice_set (memory setting statics at store (with_above (v ∷ vals))) n
        0 ≡ memory setting statics at store (with_above vals)
    above_clear v vals n few room e =
        let m = long_moved vals in
        let z : FIRST_VARIABLE + length vals ≡ length (moved_words vals) + 0 = omega (arith, m) in
        ap (λ c. slice_set c n 0) (one_above v vals few room)
        ∙ set_right until (moved_words vals ++ (word v ∷ replicate (left vals) 0)) n (FIRST_VARIABLE + length vals) 0 e
        ∙ ap (λ t. until ++ t) (set_right (moved_words vals) (word v ∷ replicate (left vals) 0)
        (FIRST_VARIABLE + length vals) 0 0
        z)
        ∙ sym (free_above vals few room)

-- ---- words of values

module _ (setting : Setting) (statics : List ℕ) where
  pub cleared_word : (at : Placing) (v : Value) → value_word setting statics at (cleared v) ≡ 0
  cleared_word at (Word w) = refl
  cleared_word at Nil = refl
  cleared_word at (Name n) = refl

  pub zero_word : (at : Placing) (v : Value) → is_zero v ≡ true → value_word setting statics at v ≡ 0
  zero_word at (Word w) e = grind (arith, nat_tests, e)
  zero_word at Nil e = refl
  zero_word at (Name n) e = absurd (cc)

  pub other_word : (at : Placing) (v : Value) → 0 < base setting statics → is_zero v ≡ false
      → value_word setting statics at v ≢ 0
  other_word at (Word w) pos e z = absurd (grind (arith, nat_tests, e, z))
  other_word at Nil pos e z = absurd (cc)
  other_word at (Name n) pos e z = absurd (omega (arith, pos, z))

-- ---- a new variable

module _ (setting : Setting) (statics : List ℕ) (at : Placing) (store : Store) (u : Under)
    (put_long : length u.put_by ≡ FIRST_VARIABLE) (cs_long : length (callers_words setting statics at u.callers)
    ≡ FRAME_WORDS * length u.callers) (long : length (before_stack setting statics at store)
    ≡ stack_base setting statics)
    (frame : List Binding) (few : length frame < MOST_VARIABLES) where
  abbrev low_part : List ℕ
  low_part = below setting statics at store u.callers u.put_by put_long cs_long []

  abbrev rest_part : List ℕ
  rest_part = behind setting statics at store u.callers u.put_by put_long cs_long [] (suc (length frame))

  abbrev new_place : ℕ
  new_place = frame_at setting statics u + (FIRST_VARIABLE + length frame)

  new_is : new_place ≡ length low_part + length frame
  new_is =
      let a = length-append (before_stack setting statics at store ++ callers_words setting statics at u.callers)
      u.put_by in
      let b = length-append (before_stack setting statics at store) (callers_words setting statics at u.callers) in
      omega (arith, a, b, long, cs_long, put_long)

  abbrev vs : List Value
  vs = values_of setting statics frame

  long_vs : length (value_words setting statics at vs) ≡ length frame
  long_vs = length_values setting statics at vs ∙ length_map setting statics (λ (b : Binding). b.value) frame

  free_split : memory setting statics at store (stack_words setting statics at u frame [])
      ≡ low_part ++ (value_words setting statics at vs ++ (0 ∷ rest_part))
  free_split =
      let e : FRAME_WORDS - (FIRST_VARIABLE + length frame)
      ≡ suc (FRAME_WORDS - (FIRST_VARIABLE + suc (length frame))) = omega (arith, few) in
      split setting statics at store u.callers u.put_by put_long cs_long [] frame (omega (arith, few))
      ∙ ap (λ k. low_part ++ (value_words setting statics at vs
      ++ (replicate k 0 ++ ([] ++ replicate (FRAME_WORDS * setting.limits.deep -
      (FRAME_WORDS * length u.callers + (FRAME_WORDS + 0)))
      0)))) e

  with_split : (b : Binding) → memory setting statics at store (stack_words setting statics at u (b ∷ frame) [])
      ≡ low_part ++ (value_words setting statics at vs ++ (value_word setting statics at b.value ∷ rest_part))
  with_split b =
      split setting statics at store u.callers u.put_by put_long cs_long [] (b ∷ frame) (omega (arith, few))
      ∙ ap (λ t. low_part ++ t) (append_assoc (value_words setting statics at vs)
      (value_word setting statics at b.value ∷ []) rest_part)

  pub new_set : (b : Binding) → slice_set (memory setting statics at store (stack_words setting statics at u frame []))
      new_place (value_word setting statics at b.value) ≡ memory setting statics at store
      (stack_words setting statics at u (b ∷ frame) [])
  new_set b =
      ap (λ c. slice_set c new_place (value_word setting statics at b.value)) free_split
      ∙ set_right low_part (value_words setting statics at vs ++ (0 ∷ rest_part)) new_place (length frame)
      (value_word setting statics at b.value) new_is
      ∙ ap (λ t. low_part ++ t) (set_right (value_words setting statics at vs) (0 ∷ rest_part) (length frame) 0
      (value_word setting statics at b.value) (let l = long_vs in omega (arith, l)))
      ∙ sym (with_split b)

  pub new_free : slice_index (memory setting statics at store (stack_words setting statics at u frame [])) new_place ≡ 0
  new_free =
      ap (λ c. slice_index c new_place) free_split ∙ get_right low_part
      (value_words setting statics at vs ++ (0 ∷ rest_part)) new_place (length frame) new_is
      ∙ get_right (value_words setting statics at vs) (0 ∷ rest_part) (length frame) 0
      (let l = long_vs in omega (arith, l))

  pub new_clear : (b : Binding) → slice_set (memory setting statics at store
      (stack_words setting statics at u (b ∷ frame) [])) new_place 0
      ≡ memory setting statics at store (stack_words setting statics at u frame [])
  new_clear b =
      ap (λ c. slice_set c new_place 0) (with_split b)
      ∙ set_right low_part (value_words setting statics at vs ++ (value_word setting statics at b.value ∷ rest_part))
      new_place (length frame) 0 new_is
      ∙ ap (λ t. low_part ++ t) (set_right (value_words setting statics at vs)
      (value_word setting statics at b.value ∷ rest_part) (length frame) 0 0
      (let l = long_vs in omega (arith, l)))
      ∙ sym free_split
