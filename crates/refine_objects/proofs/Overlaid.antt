-- An object of zeros laid over zeros: its first word and its count are written.
use Rattle.std.proofs.Common.{◌≡◌, ◌∙◌, sym, ap, refl, ℕ, zero, suc, ◌+◌, ◌-◌, ◌<◌, ◌≤◌, ◌⊎◌, inl, inr, Bool, true}
use Rattle.std.proofs.Common.{false, List, [], ◌∷◌, map, length, arith, length-set, ◌++◌, ◌≢◌, replicate}
use Rattle.std.proofs.lemmas.Bool.{cases_lt, eqb-true, eqb-false}
use Rattle.std.proofs.lemmas.List.{ext_get_or, get_or-set_same, get_or-set_other, get_or_append_left}
use Rattle.std.proofs.lemmas.List.{get_or-append_right, get_or-replicate}
use Rattle.std.specs.Prelude.{nat_eq, ◌&&◌, slice_index, slice_set}
use Rattle.object_codegen.specs.code_conventions.declared.memory.TheConstants.{HEADER_WORDS, COUNT_WORD}
use Rattle.object_codegen.specs.roopl_semantics.Store.{Value, Word, Nil, Name, is_zero}
use Rattle.object_codegen.specs.roopl_semantics.Execution.{all_zero}
use Rattle.object_codegen.specs.roopl_semantics.Layout.{overlaid, word_of_value}
use Rattle.object_codegen.proofs.meaning_sound_laws.Overlays.{length_overlaid, index_inside, index_outside}
use Rattle.object_codegen.specs.code_conventions.Header.{header}
use Rattle.refine_expressions.proofs.refine_calls_laws.StaticsWords.{header_is}

-- zeros have words of 0
pub zeros_words : (base : ℕ) (blocks : List (ℕ × ℕ)) (vs : List Value) → all_zero vs ≡ true → (i : ℕ)
    → slice_index (map (word_of_value base blocks) vs) i ≡ 0
zeros_words base blocks [] h i = refl
zeros_words base blocks (v ∷ vs) h i = by v h i (λ q j. zeros_words base blocks vs q j)
  where
    by : (v : Value) → (is_zero v && all_zero vs) ≡ true → (i : ℕ)
        → (all_zero vs ≡ true → (j : ℕ) → slice_index (map (word_of_value base blocks) vs) j ≡ 0)
        → slice_index (word_of_value base blocks v ∷ map (word_of_value base blocks) vs) i ≡ 0
    by (Word w) q i rest = word (nat_eq w 0) refl q i
      where
        word : (b : Bool) → nat_eq w 0 ≡ b → (b && all_zero vs) ≡ true → (i : ℕ)
            → slice_index (w ∷ map (word_of_value base blocks) vs) i ≡ 0
        word true e z zero = eqb-true w 0 e
        word true e z (suc i) = rest z i
        word false e z i = absurd (cc)
    by Nil q zero rest = refl
    by Nil q (suc i) rest = rest q i
    by (Name n) q i rest = absurd (cc)

module _ (xs ws : List ℕ) (x mark : ℕ) (room : x + (HEADER_WORDS + length ws) ≤ length xs)
    (zeros : (i : ℕ) → slice_index ws i ≡ 0)
    (empty : (i : ℕ) → i < HEADER_WORDS + length ws → slice_index xs (x + i) ≡ 0) where
  abbrev one : List ℕ
  one = slice_set xs x mark

  abbrev two : List ℕ
  two = slice_set (slice_set xs x mark) (x + COUNT_WORD) 1

  abbrev over : List ℕ
  over = overlaid xs x (header mark 1 ++ ws)

  apart : (k : ℕ) → (k < x) ⊎ (x + HEADER_WORDS ≤ k) → slice_index two k ≡ slice_index xs k
  apart k (inl h) = get_or-set_other one (x + COUNT_WORD) k 1 0 (λ e. omega (arith, e, h))
      ∙ get_or-set_other xs x k mark 0 (λ e. omega (arith, e, h))
  apart k (inr h) = get_or-set_other one (x + COUNT_WORD) k 1 0 (λ e. omega (arith, e, h))
      ∙ get_or-set_other xs x k mark 0 (λ e. omega (arith, e, h))

  -- all words but the first and the count are 0
  others : (i : ℕ) → i ≢ 0 → i ≢ COUNT_WORD → slice_index (header mark 1 ++ ws) i ≡ 0
  others i no_head no_count = by (cases_lt i HEADER_WORDS)
    where
      by : (i < HEADER_WORDS) ⊎ (HEADER_WORDS ≤ i) → slice_index (header mark 1 ++ ws) i ≡ 0
      by (inl h) =
          get_or_append_left (header mark 1) ws 0 i h
          ∙ ap (λ front. slice_index front i) (header_is mark 1)
          ∙ get_or-set_other (slice_set (replicate HEADER_WORDS 0) 0 mark) COUNT_WORD i 1 0 no_count
          ∙ get_or-set_other (replicate HEADER_WORDS 0) 0 i mark 0 no_head
          ∙ get_or-replicate HEADER_WORDS i 0 0 h
      by (inr h) = get_or-append_right (header mark 1) ws HEADER_WORDS i 0 refl h ∙ zeros (i - HEADER_WORDS)

  inside : (i k : ℕ) → k ≡ x + i → i < HEADER_WORDS + length ws → k < length xs → slice_index over k ≡ slice_index two k
  inside i k e l h = index_inside xs x (header mark 1 ++ ws) k i e (omega arith) h
      ∙ by (nat_eq i 0) (nat_eq i COUNT_WORD) refl refl
    where
      by : (a b : Bool) → nat_eq i 0 ≡ a → nat_eq i COUNT_WORD ≡ b
          → slice_index (header mark 1 ++ ws) i ≡ slice_index two k
      by true b p q =
          let first : i ≡ 0 = eqb-true i 0 p in
          ap (slice_index (header mark 1 ++ ws)) first
          ∙ sym (ap (slice_index two) (omega (arith, e, first)) ∙ get_or-set_other one (x + COUNT_WORD) x 1 0
          (λ z. omega (arith, z))
          ∙ get_or-set_same xs x mark 0 (omega (arith, e, h)))
      by false true p q =
          let second : i ≡ COUNT_WORD = eqb-true i COUNT_WORD q in
          ap (slice_index (header mark 1 ++ ws)) second
          ∙ sym (ap (slice_index two) (e ∙ ap (λ z. x + z) second) ∙ get_or-set_same one (x + COUNT_WORD) 1 0
          (omega (arith, e, second, h, length-set xs x mark)))
      by false false p q =
          let no_head : i ≢ 0 = eqb-false i 0 p in
          let no_count : i ≢ COUNT_WORD = eqb-false i COUNT_WORD q in
          others i no_head no_count
          ∙ sym (get_or-set_other one (x + COUNT_WORD) k 1 0 (λ z. no_count (omega (arith, z, e)))
          ∙ get_or-set_other xs x k mark 0 (λ z. no_head (omega (arith, z, e)))
          ∙ ap (slice_index xs) e ∙ empty i l)

  pub filled_over : over ≡ two
  filled_over =
      ext_get_or 0 over two (length_overlaid xs x (header mark 1 ++ ws)
      ∙ sym (length-set one (x + COUNT_WORD) 1 ∙ length-set xs x mark))
      (λ k h. by k (omega (arith, h, length_overlaid xs x (header mark 1 ++ ws))) (cases_lt k x)
      (cases_lt k (x + (HEADER_WORDS + length ws))))
    where
      by : (k : ℕ) → k < length xs → (k < x) ⊎ (x ≤ k) → (k < x + (HEADER_WORDS + length ws))
          ⊎ (x + (HEADER_WORDS + length ws) ≤ k)
          → slice_index over k ≡ slice_index two k
      by k h (inl l) q = index_outside xs x (header mark 1 ++ ws) k (inl l) ∙ sym (apart k (inl l))
      by k h (inr l) (inr m) = index_outside xs x (header mark 1 ++ ws) k (inr (omega (arith, m)))
          ∙ sym (apart k (inr (omega (arith, m))))
      by k h (inr l) (inl m) = inside (k - x) k (omega (arith, l)) (omega (arith, l, m)) h
