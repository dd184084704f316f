-- What the words of a current frame determine: references from nil and from each other, heads,
-- reference counts; and that they are words in range. That an object id in a cell is live and not
-- the main object's comes only from the main object's own reference count.
use Rattle.std.proofs.Common.{◌≡◌, ◌≢◌, ◌∙◌, sym, ap, subst, refl, ℕ, ◌+◌, ◌-◌, ◌*◌, ◌/◌, ◌^◌, ◌<◌, ◌≤◌, Bool, true}
use Rattle.std.proofs.Common.{false, List, [], ◌∷◌, length, drop, Some, arith}
use Rattle.std.proofs.Math.Nat.{mod-add-div}
use Rattle.std.proofs.lemmas.Bool.{eqb-true}
use Rattle.std.proofs.lemmas.List.{get_or_append_left, length-replicate}
use Rattle.std.specs.Prelude.{nat_eq, nat_lt, ◌&&◌, slice_index, replicate, if◌then◌else◌}
use Rattle.std.specs.Option.{option_map}
use Rattle.meaning_sound.specs.class_rules.declared.kind.Kind.{Kind}
use Rattle.meaning_sound.specs.class_rules.Expressions.{is_int}
use Rattle.meaning_sound.specs.class_rules.Scope.{Locals}
use Rattle.meaning_sound.specs.buddy_book.Place.{Placing, block_of, count_taken}
use Rattle.meaning_sound.proofs.buddy_book_laws.Orders.{pow_pos}
use Rattle.meaning_sound.proofs.buddy_book_laws.StoredLaws.{two_power}
use Rattle.meaning_sound.specs.roopl_semantics.Store.{Value, Word, Nil, Name, State, main_name, number_of, object_at}
use Rattle.meaning_sound.specs.roopl_semantics.Value.{Cell, read}
use Rattle.meaning_sound.specs.rpp_words.Limits.{IsLimits}
use Rattle.meaning_sound.specs.roopl_semantics.Layout.{word_of_value, head_word, object_words, with_book}
use Rattle.meaning_sound.specs.roopl_semantics.Laws.{one_if_name}
use Rattle.meaning_sound.specs.pisa_isa.Loaded.{statics_at}
use Rattle.meaning_sound.specs.pisa_isa.declared.image.TheConstants.{MOST_STATICS}
use Rattle.meaning_sound.specs.rpp_words.declared.input.TheConstants.{FRAME_WORDS}
use Rattle.meaning_sound.specs.Sound.{head_of, is_live, is_of_kind, cell_kinds, cell_kind, held, Typed}
use Rattle.refine_frame.specs.Open.{Setup, setup_base, stack_at, object_address, memory, IsGrounded}
use Rattle.meaning_sound.proofs.Lists.{all_length}
use Rattle.meaning_sound.proofs.Stores.{live_object, other_number, same_number, differs}
use Rattle.meaning_sound.proofs.Cells.{read_fits, held_written}
use Rattle.meaning_sound.proofs.Objects.{fit_live, clash}
use Rattle.meaning_sound.proofs.Removal.{one_name}
use Rattle.meaning_sound.proofs.Regions.{region_inside, blocks_descend, entries_are, entry_of}
use Rattle.refine_frame.proofs.Heaps.{length_words, length_book, read_heap}
use Rattle.refine_frame.proofs.Memory.{base_above, second, fourth, fixed, statics, gap, heap, stack_part, length_fixed}
use Rattle.refine_frame.proofs.Memory.{length_statics, length_heap_is, before_heap, main_long, address_other}

-- ---- the number of cells

pub rounded_below : (x s : ℕ) → 0 < s → (x + s - 1) / s * s < x + s
rounded_below x s pos =
    let n = x + s - 1 in
    let e = mod-add-div n s in
    let c : n / s * s ≡ s * (n / s) = omega arith in
    omega arith

-- with at most 262,144 static cells all addresses are far below the words' end
pub cells_small : (u : Setup) → IsLimits u.setting.limits → length u.statics ≤ MOST_STATICS
    → stack_at u + FRAME_WORDS * u.setting.limits.deep ≤ 2 ^ 23
cells_small u limits few =
    let r = rounded_below (statics_at + length u.statics) (2 ^ u.setting.limits.heap) (pow_pos u.setting.limits.heap) in
    let t = two_power u.setting.limits.heap limits.heap_to in
    let d = limits.deep_to in
    let a : 2 ^ 20 ≡ 1048576 = refl in
    let b : 2 ^ 23 ≡ 8388608 = refl in
    omega arith

module _ (u : Setup) (extra : ℕ → ℕ) (shape : Locals) (class : ℕ) (st : State)
    (s : Typed u.setting extra shape class st) (unheld : held main_name st ≡ 0) where
  abbrev at : Placing
  at = s.placed.at

  abbrev base : ℕ
  base = setup_base u

  -- a name in a cell is live and not the main object's
  pub record IsReference (n : ℕ) : Type 0 where
    pub live : is_live st.store n ≡ true
    pub no_main : n ≢ main_name

  pub reference_read : (cell : Cell) (k : Kind) (n : ℕ) → cell_kind u.setting.program shape st.store cell ≡ Some k
      → read st cell ≡ Name n → IsReference n
  reference_read cell k n h reads =
      let fit : is_of_kind u.setting.program st.store (Name n) k ≡ true =
      subst (λ v. is_of_kind u.setting.program st.store v k ≡ true) reads
      (read_fits u.setting extra shape class st cell k s h) in
      let a = held_written u.setting extra shape class st cell k (Word 0) n s h in
      let b : one_if_name n (read st cell) ≡ 1 = ap (one_if_name n) reads ∙ one_name n in
      record {
        live = fit_live u.setting.program st.store (Name n) k n fit (let o = one_name n in omega arith);
        no_main = λ e. let z : held n st ≡ held main_name st = ap (λ x. held x st) e in omega (arith, z, a, b, unheld);
      }

  -- a name's word is no 0, and is below the stack
  pub name_word : (n : ℕ) → IsReference n → (0 < word_of_value base at.blocks (Name n))
      × (word_of_value base at.blocks (Name n) < stack_at u)
  name_word n r =
      let b = base_above u in
      let inside = region_inside u.setting st.store st.log s.placed n (object_at st.store n).head
      (ap (option_map head_of) (live_object st.store n r.live)) r.no_main in
      (omega arith, omega arith)

  -- two names have one word only if they are one
  pub names_tell : (n m : ℕ) → IsReference n → IsReference m
      → word_of_value base at.blocks (Name n) ≡ word_of_value base at.blocks (Name m) → n ≡ m
  names_tell n m r q e = by (nat_eq n m) refl
    where
      by : (b : Bool) → nat_eq n m ≡ b → n ≡ m
      by true f = eqb-true n m f
      by false f = absurd (s.placed.apart n m r.live q.live r.no_main q.no_main (differs n m f) (omega arith))

  -- no such name is 0: there is nothing below the main object's
  pub name_positive : (n : ℕ) → IsReference n → 0 < n
  name_positive n r =
      above (2 + count_taken st.log) at.blocks n (blocks_descend u.setting st.store st.log (2 + count_taken st.log)
      s.placed s.fresh) (entry_of (2 + count_taken st.log) st.store at.blocks n s.placed.names r.live r.no_main)
    where
      above : (bound : ℕ) (blocks : List (ℕ × ℕ)) (n : ℕ) → Rattle.meaning_sound.proofs.Regions.BlocksDescend bound
          blocks → Rattle.meaning_sound.proofs.Regions.has_entry n blocks ≡ true → 0 < n
      above bound [] n d h = absurd (cc)
      above bound ((m, b) ∷ blocks) n d h = by (nat_eq m n) refl h (λ q. above m blocks n d.2 q)
        where
          by : (t : Bool) → nat_eq m n ≡ t → (if t then true else Rattle.meaning_sound.proofs.Regions.has_entry n
              blocks) ≡ true → (Rattle.meaning_sound.proofs.Regions.has_entry n blocks ≡ true → 0 < n) → 0 < n
          by true e q rest = let z = eqb-true m n e in let a = d.1 in omega arith
          by false e q rest = rest q

  abbrev pub IsRef : Value → Type 0
  IsRef (Word w) = ⊥
  IsRef Nil = Unit {0}
  IsRef (Name n) = IsReference n

  -- equal words are equal references
  pub words_tell : (v w : Value) → IsRef v → IsRef w → nat_eq (word_of_value base at.blocks v)
      (word_of_value base at.blocks w)
      ≡ nat_eq (number_of v) (number_of w)
  words_tell (Word a) w p q = absurd p
  words_tell Nil (Word b) p q = absurd q
  words_tell (Name n) (Word b) p q = absurd q
  words_tell Nil Nil p q = refl
  words_tell Nil (Name m) p q = let a = (name_word m q).0 in let b = name_positive m q in
      other_number 0 (word_of_value base at.blocks (Name m)) (λ e. omega arith)
      ∙ sym (other_number 0 m (λ e. omega arith))
  words_tell (Name n) Nil p q = let a = (name_word n p).0 in let b = name_positive n p in
      other_number (word_of_value base at.blocks (Name n)) 0 (λ e. omega arith)
      ∙ sym (other_number n 0 (λ e. omega arith))
  words_tell (Name n) (Name m) p q = by (nat_eq n m) refl
    where
      by : (b : Bool) → nat_eq n m ≡ b → nat_eq (word_of_value base at.blocks (Name n))
          (word_of_value base at.blocks (Name m))
          ≡ nat_eq n m
      by true e = ap (λ k. nat_eq (word_of_value base at.blocks (Name k)) (word_of_value base at.blocks (Name m)))
          (eqb-true n m e)
          ∙ same_number (word_of_value base at.blocks (Name m)) ∙ sym e
      by false e = other_number (word_of_value base at.blocks (Name n)) (word_of_value base at.blocks (Name m))
          (λ z. differs n m e (names_tell n m p q z)) ∙ sym e

  -- what is read from a cell of a type that is no int is nil or a reference
  pub reference_cell : (cell : Cell) (k : Kind) → cell_kind u.setting.program shape st.store cell ≡ Some k
      → is_int k ≡ false → IsRef (read st cell)
  reference_cell cell k h no_int = by (read st cell) refl (read_fits u.setting extra shape class st cell k s h)
    where
      by : (v : Value) → read st cell ≡ v → is_of_kind u.setting.program st.store v k ≡ true → IsRef v
      by (Word w) e f = clash (is_int k && nat_lt w (2 ^ 32)) f (ap (λ b. b && nat_lt w (2 ^ 32)) no_int)
      by Nil e f = tt
      by (Name n) e f = reference_read cell k n h e

  -- ---- the words before an object's cells

  module _ (g : IsGrounded u st.store) where
    pub read_word : (stack : List ℕ) (n j : ℕ) → is_live st.store n ≡ true
        → j < length (object_words u.setting.program base at.blocks (object_at st.store n))
        → slice_index (memory u at st.store stack) (object_address u at.blocks n + j)
        ≡ slice_index (object_words u.setting.program base at.blocks (object_at st.store n)) j
    read_word stack n j live h = by (nat_eq n main_name) refl
      where
        bound : ℕ
        bound = 2 + count_taken st.log

        main_case : j < length (object_words u.setting.program base at.blocks (object_at st.store main_name))
            → slice_index (memory u at st.store stack) (statics_at + j)
            ≡ slice_index (object_words u.setting.program base at.blocks (object_at st.store main_name)) j
        main_case l =
            let main = object_words u.setting.program base at.blocks (object_at st.store main_name) in
            let long = main_long u extra shape class st s g in
            second (fixed u extra shape class st s g) (statics u extra shape class st s g)
            (gap u extra shape class st s g) (heap u extra shape class st s g)
            (stack_part u extra shape class st s g stack) (statics_at + j) j
            (let f = length_fixed u extra shape class st s g in omega arith)
            (let k = length_statics u extra shape class st s g in let r = g.room in omega arith)
            ∙ get_or_append_left main (drop (length main) u.statics) 0 j l

        other_case : n ≢ main_name → slice_index (memory u at st.store stack) (base + block_of at.blocks n + j)
            ≡ slice_index (object_words u.setting.program base at.blocks (object_at st.store n)) j
        other_case no_main =
            let named = live_object st.store n live in
            let inside = region_inside u.setting st.store st.log s.placed n (object_at st.store n).head
            (ap (option_map head_of) named) no_main in
            let cells = all_length u.setting.program st.store (cell_kinds u.setting.program (object_at st.store n).head)
            (object_at st.store n).cells (s.objects n (object_at st.store n) named) in
            let long = length_words u.setting.program base at.blocks (object_at st.store n) in
            let words = with_book base at.book (replicate (2 ^ u.setting.limits.heap) 0) in
            let total = length_heap_is u extra shape class st s g in
            fourth (fixed u extra shape class st s g) (statics u extra shape class st s g)
            (gap u extra shape class st s g) (heap u extra shape class st s g)
            (stack_part u extra shape class st s g stack) (base + block_of at.blocks n + j)
            (block_of at.blocks n + j) (let b = before_heap u extra shape class st s g in omega arith) (omega arith)
            ∙ read_heap u.setting st.store st.log s.placed base s.objects n live no_main bound at.blocks words
            (blocks_descend u.setting st.store st.log bound s.placed s.fresh)
            (entries_are u.setting st.store st.log bound s.placed s.fresh)
            (entry_of bound st.store at.blocks n s.placed.names live no_main) (block_of at.blocks n + j) j refl h
            (let z = length_book base at.book (replicate (2 ^ u.setting.limits.heap) 0)
            ∙ length-replicate {A = ℕ} (2 ^ u.setting.limits.heap) 0 in omega arith)

        by : (b : Bool) → nat_eq n main_name ≡ b → slice_index (memory u at st.store stack)
            (object_address u at.blocks n + j) ≡ slice_index (object_words u.setting.program base at.blocks
            (object_at st.store n)) j
        by true e =
            let same = eqb-true n main_name e in
            subst (λ k. slice_index (memory u at st.store stack) (object_address u at.blocks k + j)
            ≡ slice_index (object_words u.setting.program base at.blocks (object_at st.store k)) j) (sym same)
            (main_case (subst (λ k. j < length (object_words u.setting.program base at.blocks (object_at st.store k)))
            same h))
        by false e = ap (λ a. slice_index (memory u at st.store stack) (a + j))
            (address_other u extra shape class st s g n (differs n main_name e)) ∙ other_case (differs n main_name e)

    -- the first word is the class table's address, or an array's length
    pub read_head : (stack : List ℕ) (n : ℕ) → is_live st.store n ≡ true
        → slice_index (memory u at st.store stack) (object_address u at.blocks n)
        ≡ head_word u.setting.program (object_at st.store n).head
    read_head stack n live =
        let z : object_address u at.blocks n ≡ object_address u at.blocks n + 0 = omega arith in
        ap (slice_index (memory u at st.store stack)) z ∙ read_word stack n 0 live
        (omega (arith, length_words u.setting.program base at.blocks (object_at st.store n)))

    -- the second is the count
    pub read_count : (stack : List ℕ) (n : ℕ) → is_live st.store n ≡ true
        → slice_index (memory u at st.store stack) (object_address u at.blocks n + 1) ≡ (object_at st.store n).count
    read_count stack n live = read_word stack n 1 live (omega
        (arith, length_words u.setting.program base at.blocks (object_at st.store n)))
