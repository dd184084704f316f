-- The checks of an element over registers that are known by a function, and its address.
use Rattle.std.proofs.Common.{◌≡◌, ◌≢◌, ℕ, true, false, ◌+◌, ◌^◌, ◌<◌, ◌≤◌, List, [], ◌∷◌, length}
use Rattle.std.proofs.Common.{refl, sym, ap, ◌∙◌, subst, arith}
use Rattle.std.specs.Prelude.{slice_index, slice_set, nat_lt, not, bit_xor}
use Rattle.std.specs.Int.Bits.{xor_zero_l}
use Rattle.std.proofs.lemmas.Bool.Decides.{nat_tests}
use Rattle.code_scope.specs.code_conventions.declared.memory.TheConstants.{HEADER_WORDS}
use Rattle.code_scope.specs.pisa_isa.Table.{word_of}
use Rattle.code_scope.specs.code_conventions.declared.faults.TheConstants.{NIL, INDEX}
use Rattle.code_scope.specs.code_conventions.declared.registers.TheConstants.{CONTENT, NOUGHT, OUTCOME}
use Rattle.code_scope.specs.paired_code.Machine.{memory_reg}
use Rattle.code_scope.specs.paired_code.Layout.{Equal, Positive}
use Rattle.code_scope.specs.rpp_words.Words.{is_less, sum_of}
use Rattle.code_scope.specs.roopl_semantics.Operators.{truth_word}
use Rattle.register_expressions.specs.Code.{exch, sltx, xori, nil_check_of, index_check_of, point_of}
use Rattle.register_expressions.proofs.Comparing.{above, not_above, past_end}
use Rattle.register_expressions.proofs.Goes.{Goes, Traps, goes_cons, goes_around, goes_to, goes_check, goes_seq}
use Rattle.register_expressions.proofs.Goes.{traps_check, traps_mid, traps_then}
use Rattle.register_expressions.proofs.Known.{known, known_same, known_at, sltx_goes, xori_goes, add_goes, addi_goes}
use Rattle.register_expressions.proofs.Known.{word_out, written_at, written_off, written_same}
use Rattle.register_expressions.proofs.Results.{written}

one_is_not : ◌≡◌ {A = ℕ} 1 0 → ⊥
one_is_not e = omega arith

-- an array that is not nil
pub nil_goes : (n : ℕ) (f : ℕ → ℕ) (zs : List ℕ) (a : ℕ) → a < n → f a < 2 ^ 31 → f a ≢ 0
    → Goes (nil_check_of a) 2 (known n f zs) (known n f zs)
nil_goes n f zs a ha h z = goes_check (Positive a) NIL (known n f zs)
    (ap (is_less 0) (known_at n f zs a ha) ∙ above (f a) h z)

pub nil_traps : (n : ℕ) (f : ℕ → ℕ) (zs : List ℕ) (a : ℕ) → a < n → f a ≡ 0
    → Traps (nil_check_of a) 1 NIL (known n f zs)
nil_traps n f zs a ha e = traps_check (Positive a) NIL (known n f zs)
    (ap (is_less 0) (known_at n f zs a ha ∙ e) ∙ not_above)

module _ (n : ℕ) (f : ℕ → ℕ) (zs : List ℕ) (room : OUTCOME < n) (clear : f OUTCOME ≡ 0) (nothing_there : f NOUGHT ≡ 0)
  where
    -- the flag as it was
    unflagged : known n (written f OUTCOME 0) zs ≡ known n f zs
    unflagged = known_same n _ _ zs (λ r l. written_same f OUTCOME 0 r clear)

    flag_is : (z : ℕ) → memory_reg (known n (written f OUTCOME z) zs) OUTCOME ≡ z
    flag_is z = known_at n (written f OUTCOME z) zs OUTCOME room ∙ written_at f OUTCOME z

    nought_is : (z : ℕ) → memory_reg (known n (written f OUTCOME z) zs) NOUGHT ≡ 0
    nought_is z = known_at n (written f OUTCOME z) zs NOUGHT (omega arith)
        ∙ written_off f OUTCOME z NOUGHT (λ e. omega arith) ∙ nothing_there

    -- whether the index is past the end of the array
    index_row : (i : ℕ) → i < n → i ≢ OUTCOME → (m : ℕ) → f CONTENT ≡ m → f i < 2 ^ 32 → m < 2 ^ 31
        → Goes (sltx OUTCOME i CONTENT ∷ sltx OUTCOME i NOUGHT ∷ xori OUTCOME 1 ∷ []) 3 (known n f zs)
        (known n (written f OUTCOME (truth_word (not (nat_lt (f i) m)))) zs)
    index_row i hi ni m e h k =
        let p : ℕ = word_of (is_less (f i) (f CONTENT)) in
        let q : ℕ = word_of (is_less (f i) (f NOUGHT)) in
        let is : bit_xor (bit_xor (bit_xor 0 p) q) 1 ≡ truth_word (not (nat_lt (f i) m)) =
        ap (λ z. bit_xor (bit_xor z q) 1) (xor_zero_l p)
        ∙ ap (λ z. bit_xor (bit_xor (word_of (is_less (f i) z)) q) 1) e
        ∙ ap (λ z. bit_xor (bit_xor (word_of (is_less (f i) m)) (word_of (is_less (f i) z))) 1) nothing_there
        ∙ past_end (f i) m h k in
        goes_to refl unflagged (ap (λ z. known n (written f OUTCOME z) zs) is)
        (goes_cons (sltx_goes n f zs OUTCOME room i CONTENT hi (omega arith) ni (λ e. omega arith) 0)
        (goes_cons (sltx_goes n f zs OUTCOME room i NOUGHT hi (omega arith) ni (λ e. omega arith) (bit_xor 0 p))
        (xori_goes n f zs OUTCOME room 1 (bit_xor (bit_xor 0 p) q) (omega arith))))

-- with the array's length in `CONTENT`
module _ (n : ℕ) (f : ℕ → ℕ) (zs : List ℕ) (room : OUTCOME < n) (clear : f OUTCOME ≡ 0) (nothing_there : f NOUGHT ≡ 0)
    (empty : f CONTENT ≡ 0) (a i : ℕ) (ha : a < n) (hi : i < n) (na : a ≢ OUTCOME) (ni : i ≢ OUTCOME) (ac : a ≢ CONTENT)
    (ic : i ≢ CONTENT) (h : f a < length zs) (k : slice_index zs (f a) < 2 ^ 31) where
  abbrev measured : ℕ → ℕ
  measured = written f CONTENT (slice_index zs (f a))

  length_out : Goes (exch CONTENT a ∷ []) 1 (known n f zs) (known n measured (slice_set zs (f a) 0))
  length_out = word_out n f zs a (f a) ha (omega arith) ac refl empty h

  still : (r : ℕ) → r ≢ CONTENT → measured r ≡ f r
  still r ne = written_off f CONTENT (slice_index zs (f a)) r ne

  row : f i < 2 ^ 32 → Goes (sltx OUTCOME i CONTENT ∷ sltx OUTCOME i NOUGHT ∷ xori OUTCOME 1 ∷ []) 3
      (known n measured (slice_set zs (f a) 0))
      (known n (written measured OUTCOME (truth_word (not (nat_lt (measured i) (slice_index zs (f a))))))
      (slice_set zs (f a) 0))
  row w = index_row n measured (slice_set zs (f a) 0) room (still OUTCOME (λ e. omega arith) ∙ clear)
      (still NOUGHT (λ e. omega arith) ∙ nothing_there) i hi ni (slice_index zs (f a))
      (written_at f CONTENT (slice_index zs (f a))) (subst (λ z. z < 2 ^ 32) (sym (still i ic)) w) k

  pub index_goes : f i < slice_index zs (f a) → Goes (index_check_of a i) 7 (known n f zs) (known n f zs)
  index_goes l =
      let same = still i ic in
      let t : nat_lt (measured i) (slice_index zs (f a)) ≡ true = grind (arith, nat_tests) in
      let c : measured OUTCOME ≡ 0 = still OUTCOME (λ e. omega arith) ∙ clear in
      let z : measured NOUGHT ≡ 0 = still NOUGHT (λ e. omega arith) ∙ nothing_there in
      let passed = goes_to refl refl (ap (λ z. known n (written measured OUTCOME (truth_word (not z)))
      (slice_set zs (f a) 0)) t) (row (omega arith)) in
      goes_around length_out (goes_seq passed (goes_to refl refl
      (unflagged n measured (slice_set zs (f a) 0) room c z)
      (goes_check (Equal OUTCOME NOUGHT) INDEX _ (flag_is n measured (slice_set zs (f a) 0) room c z 0
      ∙ sym (nought_is n measured (slice_set zs (f a) 0) room c z 0))))) length_out

  pub index_traps : f i < 2 ^ 32 → slice_index zs (f a) ≤ f i → Traps (index_check_of a i) 5 INDEX (known n f zs)
  index_traps w l =
      let same = still i ic in
      let t : nat_lt (measured i) (slice_index zs (f a)) ≡ false = grind (arith, nat_tests) in
      let c : measured OUTCOME ≡ 0 = still OUTCOME (λ e. omega arith) ∙ clear in
      let v : ℕ = truth_word (not (nat_lt (measured i) (slice_index zs (f a)))) in
      let one : v ≡ 1 = ap (λ z. truth_word (not z)) t in
      let z : measured NOUGHT ≡ 0 = still NOUGHT (λ e. omega arith) ∙ nothing_there in
      traps_mid length_out (traps_then (row w) (traps_check (Equal OUTCOME NOUGHT) INDEX _ (λ q. one_is_not (sym one
      ∙ sym (flag_is n measured (slice_set zs (f a) 0) room c z v) ∙ q
      ∙ nought_is n measured (slice_set zs (f a) 0) room c z v))))

-- the element's address in the array's register
pub point_goes : (n : ℕ) (f : ℕ → ℕ) (zs : List ℕ) (a i x y : ℕ) → a < n → i < n → i ≢ a → f a ≡ y → f i ≡ x
    → x < 2 ^ 31 → y + x + HEADER_WORDS < 2 ^ 32
    → Goes (point_of a i) 2 (known n f zs) (known n (written f a (y + x + HEADER_WORDS)) zs)
point_goes n f zs a i x y ha hi ne ea ei h k =
    let e : sum_of y x ≡ y + x = omega arith in
    let e' : sum_of (y + x) HEADER_WORDS ≡ y + x + HEADER_WORDS = omega arith in
    goes_to refl (known_same n _ _ zs (λ r l. written_same f a y r ea))
    (ap (λ z. known n (written f a z) zs) (ap (λ z. sum_of z HEADER_WORDS) (ap (sum_of y) ei ∙ e) ∙ e'))
    (goes_cons (add_goes n f zs a ha i hi ne y (omega arith) (subst (λ z. z < 2 ^ 32) (sym ei) (omega arith)))
    (addi_goes n f zs a ha HEADER_WORDS (sum_of y (f i)) (subst (λ z. sum_of y z < 2 ^ 32) (sym ei) (omega arith))
    (omega arith)))
