-- A memory by a function of its registers, of which one changes.
use Rattle.std.proofs.Common.{◌≡◌, ◌≢◌, ℕ, zero, suc, ◌+◌, ◌^◌, ◌<◌, ◌≤◌, Bool, true, false, List, [], ◌∷◌, length}
use Rattle.std.proofs.Common.{refl, sym, ap, ◌∙◌, subst, ⊎_elim, arith}
use Rattle.std.specs.Prelude.{nat_eq, nat_lt, if◌then◌else◌, slice_index, slice_set, bit_xor, bit_and, bit_or}
use Rattle.std.proofs.lemmas.Bool.{cases_eq}
use Rattle.std.proofs.lemmas.Bool.Decides.{nat_tests}
use Rattle.code_scope.specs.code_conventions.declared.memory.TheConstants.{HEADER_WORDS}
use Rattle.code_scope.specs.rpp_words.Words.{is_less, sum_of, difference_of, negated}
use Rattle.code_scope.specs.pisa_isa.Table.{word_of}
use Rattle.code_scope.specs.pisa_isa.Machine.{Memory}
use Rattle.code_scope.specs.code_conventions.declared.registers.TheConstants.{CONTENT, FRAME, OBJECT}
use Rattle.code_scope.specs.paired_code.Machine.{memory_reg, memory_with_reg}
use Rattle.code_scope.specs.paired_code.Pieces.{Done, Bad}
use Rattle.code_scope.specs.refine_form.declared.spot.Spot.{Spot}
use Rattle.code_scope.specs.refine_form.declared.spot.Spot.TheVariants.{Field, Frame}
use Rattle.register_expressions.specs.Code.{add, sub, xor, addi, xori, andx, orx, sltx, exch, base_of, reach_cells}
use Rattle.register_expressions.specs.Number.{Bases, spot_address}
use Rattle.register_expressions.proofs.Goes.{Goes, goes_to, goes_cons, goes_xor, goes_add, goes_sub, goes_addi}
use Rattle.register_expressions.proofs.Goes.{goes_addi_word, goes_exch}
use Rattle.register_expressions.proofs.Results.{written}

-- ---- registers with one other value

pub written_at : (f : ℕ → ℕ) (i v : ℕ) → written f i v i ≡ v
written_at f i v =
    let t : nat_eq i i ≡ true = grind (arith, nat_tests) in
    ap (λ t. if t then v else f i) t

pub written_off : (f : ℕ → ℕ) (i v j : ℕ) → j ≢ i → written f i v j ≡ f j
written_off f i v j n =
    let t : nat_eq j i ≡ false = grind (arith, nat_tests) in
    ap (λ t. if t then v else f j) t

pub written_local : (f g : ℕ → ℕ) (i v j : ℕ) → f j ≡ g j → written f i v j ≡ written g i v j
written_local f g i v j e = ap (λ u. if nat_eq j i then v else u) e

pub written_again : (f : ℕ → ℕ) (i x v j : ℕ) → written (written f i x) i v j ≡ written f i v j
written_again f i x v j = by (nat_eq j i)
  where
    by : (t : Bool) → (if t then v else (if t then x else f j)) ≡ (if t then v else f j)
    by true = refl
    by false = refl

-- one that it has already
pub written_same : (f : ℕ → ℕ) (i v j : ℕ) → f i ≡ v → written f i v j ≡ f j
written_same f i v j e = ⊎_elim (λ q. subst (λ k. written f i v k ≡ f k) (sym q) (written_at f i v ∙ sym e))
    (λ n. written_off f i v j n) (cases_eq j i)

pub written_both : (f : ℕ → ℕ) (i x j y q : ℕ) → i ≢ j → written (written f i x) j y q ≡ written (written f j y) i x q
written_both f i x j y q n = ⊎_elim
    (λ e. subst (λ q. written (written f i x) j y q ≡ written (written f j y) i x q) (sym e)
    (written_off (written f i x) j y i n ∙ written_at f i x ∙ sym (written_at (written f j y) i x)))
    (λ m. written_local (written f i x) f j y q (written_off f i x q m) ∙ sym (written_off (written f j y) i x q m))
    (cases_eq q i)

-- ---- so many registers as a list

abbrev pub tabulated : ℕ → (ℕ → ℕ) → List ℕ
tabulated zero f = []
tabulated (suc n) f = f zero ∷ tabulated n (λ j. f (suc j))

pub tabulated_is : (n : ℕ) (l : List ℕ) → length l ≡ n → l ≡ tabulated n (slice_index l)
tabulated_is zero [] h = refl
tabulated_is zero (x ∷ l) h = absurd (omega arith)
tabulated_is (suc n) [] h = absurd (omega arith)
tabulated_is (suc n) (x ∷ l) h = ap (λ z. x ∷ z) (tabulated_is n l (omega arith))

tabulated_at : (n : ℕ) (f : ℕ → ℕ) (r : ℕ) → r < n → slice_index (tabulated n f) r ≡ f r
tabulated_at zero f r h = absurd (omega arith)
tabulated_at (suc n) f zero h = refl
tabulated_at (suc n) f (suc r) h = tabulated_at n (λ j. f (suc j)) r (omega arith)

tabulated_same : (n : ℕ) (f g : ℕ → ℕ) → ((r : ℕ) → r < n → f r ≡ g r) → tabulated n f ≡ tabulated n g
tabulated_same zero f g h = refl
tabulated_same (suc n) f g h =
    let l : 0 < suc n = omega arith in
    ap (λ z. z ∷ tabulated n (λ j. f (suc j))) (h 0 l)
    ∙ ap (λ z. g 0 ∷ z) (tabulated_same n (λ j. f (suc j)) (λ j. g (suc j)) (λ r k. h (suc r) (omega arith)))

shifted : (f : ℕ → ℕ) (r v j : ℕ) → written (λ i. f (suc i)) r v j ≡ written f (suc r) v (suc j)
shifted f r v j = ⊎_elim
    (λ e. subst (λ k. written (λ i. f (suc i)) r v k ≡ written f (suc r) v (suc k)) (sym e)
    (written_at (λ i. f (suc i)) r v ∙ sym (written_at f (suc r) v)))
    (λ n. written_off (λ i. f (suc i)) r v j n ∙ sym (written_off f (suc r) v (suc j) (λ e. n (omega arith))))
    (cases_eq j r)

tabulated_set : (n : ℕ) (f : ℕ → ℕ) (r v : ℕ) → r < n → slice_set (tabulated n f) r v ≡ tabulated n (written f r v)
tabulated_set zero f r v h = absurd (omega arith)
tabulated_set (suc n) f zero v h =
    ap (λ z. z ∷ tabulated n (λ j. f (suc j))) (sym (written_at f 0 v))
    ∙ ap (λ z. written f 0 v 0 ∷ z) (tabulated_same n (λ j. f (suc j)) (λ j. written f 0 v (suc j))
    (λ r l. sym (written_off f 0 v (suc r) (λ e. omega arith))))
tabulated_set (suc n) f (suc r) v h =
    ap (λ z. f 0 ∷ z) (tabulated_set n (λ j. f (suc j)) r v (omega arith)
    ∙ tabulated_same n (written (λ i. f (suc i)) r v) (λ j. written f (suc r) v (suc j)) (λ j l. shifted f r v j))
    ∙ ap (λ z. z ∷ tabulated n (λ j. written f (suc r) v (suc j)))
    (sym (written_off f (suc r) v 0 (λ e. omega arith)))

module _ (n : ℕ) where
  abbrev pub known : (ℕ → ℕ) → List ℕ → Memory
  known f zs = record { regs = tabulated n f; cells = zs }

  pub known_same : (f g : ℕ → ℕ) (zs : List ℕ) → ((r : ℕ) → r < n → f r ≡ g r) → known f zs ≡ known g zs
  known_same f g zs h = ap (λ r. record { regs = r; cells = zs }) (tabulated_same n f g h)

  pub known_at : (f : ℕ → ℕ) (zs : List ℕ) (r : ℕ) → r < n → memory_reg (known f zs) r ≡ f r
  known_at f zs r h = tabulated_at n f r h

  pub known_set : (f : ℕ → ℕ) (zs : List ℕ) (r v : ℕ) → r < n
      → memory_with_reg (known f zs) r v ≡ known (written f r v) zs
  known_set f zs r v h = ap (λ z. record { regs = z; cells = zs }) (tabulated_set n f r v h)

  -- ---- one register changes

  module _ (f : ℕ → ℕ) (zs : List ℕ) (d : ℕ) (hd : d < n) where
    abbrev put : ℕ → Memory
    put x = known (written f d x) zs

    mine : (x : ℕ) → memory_reg (put x) d ≡ x
    mine x = known_at (written f d x) zs d hd ∙ written_at f d x

    other : (s x : ℕ) → s < n → s ≢ d → memory_reg (put x) s ≡ f s
    other s x h k = known_at (written f d x) zs s h ∙ written_off f d x s k

    set : (x v : ℕ) → memory_with_reg (put x) d v ≡ put v
    set x v = known_set (written f d x) zs d v hd ∙ known_same _ _ zs (λ r h. written_again f d x v r)

    done : (x v v' : ℕ) → v ≡ v' → Done (memory_with_reg (put x) d v) 1 ≡ Done (put v') 1
    done x v v' e = ap (λ u. Done (memory_with_reg (put x) d u) 1) e ∙ ap (λ u. Done u 1) (set x v')

    pub xori_goes : (w x : ℕ) → w < 2 ^ 32 → Goes (xori d w ∷ []) 1 (known (written f d x) zs)
        (known (written f d (bit_xor x w)) zs)
    xori_goes w x h = goes_xor _ put x w refl h (λ z. step z) (λ z. step z)
      where
        step : (z : ℕ) → Done (memory_with_reg (put z) d (bit_xor (memory_reg (put z) d) w)) 1
            ≡ Done (put (bit_xor z w)) 1
        step z = done z _ _ (ap (λ u. bit_xor u w) (mine z))

    pub addi_goes : (w x : ℕ) → x < 2 ^ 32 → w < 2 ^ 32 → Goes (addi d w ∷ []) 1 (known (written f d x) zs)
        (known (written f d (sum_of x w)) zs)
    addi_goes w x h k = goes_addi_word _ put x w h k refl k (λ z. step z w) (λ z. step z (negated w))
      where
        step : (z u : ℕ) → Done (memory_with_reg (put z) d (sum_of (memory_reg (put z) d) u)) 1
            ≡ Done (put (sum_of z u)) 1
        step z u = done z _ _ (ap (λ y. sum_of y u) (mine z))

    module _ (s : ℕ) (hs : s < n) (ns : s ≢ d) where
      pub xor_goes : (x : ℕ) → Goes (xor d s ∷ []) 1 (known (written f d x) zs)
          (known (written f d (bit_xor x (f s))) zs)
      xor_goes x = goes_xor _ put x (f s) refl (omega arith) (λ z. step z) (λ z. step z)
        where
          step : (z : ℕ) → Done (memory_with_reg (put z) d (bit_xor (memory_reg (put z) d) (memory_reg (put z) s))) 1
              ≡ Done (put (bit_xor z (f s))) 1
          step z = done z _ _ (ap (λ u. bit_xor u (memory_reg (put z) s)) (mine z) ∙ ap (bit_xor z) (other s z hs ns))

      plus : (z : ℕ) → Done (memory_with_reg (put z) d (sum_of (memory_reg (put z) d) (memory_reg (put z) s))) 1
          ≡ Done (put (sum_of z (f s))) 1
      plus z = done z _ _ (ap (λ u. sum_of u (memory_reg (put z) s)) (mine z) ∙ ap (sum_of z) (other s z hs ns))

      minus : (z : ℕ) → Done (memory_with_reg (put z) d (difference_of (memory_reg (put z) d) (memory_reg (put z) s))) 1
          ≡ Done (put (difference_of z (f s))) 1
      minus z = done z _ _ (ap (λ u. difference_of u (memory_reg (put z) s)) (mine z)
          ∙ ap (difference_of z) (other s z hs ns))

      pub add_goes : (x : ℕ) → x < 2 ^ 32 → f s < 2 ^ 32 → Goes (add d s ∷ []) 1 (known (written f d x) zs)
          (known (written f d (sum_of x (f s))) zs)
      add_goes x h k = goes_add _ put x (f s) h k refl (omega arith) (λ z. plus z) (λ z. minus z)

      pub sub_goes : (x : ℕ) → x < 2 ^ 32 → f s < 2 ^ 32 → Goes (sub d s ∷ []) 1 (known (written f d x) zs)
          (known (written f d (difference_of x (f s))) zs)
      sub_goes x h k = goes_sub _ put x (f s) h k refl (omega arith) (λ z. minus z) (λ z. plus z)

    module _ (a s : ℕ) (ha : a < n) (hs : s < n) (na : a ≢ d) (ns : s ≢ d) where
      pub sltx_goes : (x : ℕ) → Goes (sltx d a s ∷ []) 1 (known (written f d x) zs)
          (known (written f d (bit_xor x (word_of (is_less (f a) (f s))))) zs)
      sltx_goes x = goes_xor _ put x (word_of (is_less (f a) (f s))) refl (omega arith) (λ z. step z) (λ z. step z)
        where
          step : (z : ℕ) → Done (memory_with_reg (put z) d (bit_xor (memory_reg (put z) d)
              (word_of (is_less (memory_reg (put z) a) (memory_reg (put z) s))))) 1
              ≡ Done (put (bit_xor z (word_of (is_less (f a) (f s))))) 1
          step z = done z _ _ (ap (λ u. bit_xor u (word_of (is_less (memory_reg (put z) a) (memory_reg (put z) s))))
              (mine z)
              ∙ ap (λ u. bit_xor z (word_of (is_less u (memory_reg (put z) s)))) (other a z ha na)
              ∙ ap (λ u. bit_xor z (word_of (is_less (f a) u))) (other s z hs ns))

      pub andx_goes : (x : ℕ) → Goes (andx d a s ∷ []) 1 (known (written f d x) zs)
          (known (written f d (bit_xor x (bit_and (f a) (f s)))) zs)
      andx_goes x = goes_xor _ put x (bit_and (f a) (f s)) refl (omega arith) (λ z. step z) (λ z. step z)
        where
          step : (z : ℕ) → Done (memory_with_reg (put z) d (bit_xor (memory_reg (put z) d)
              (bit_and (memory_reg (put z) a) (memory_reg (put z) s)))) 1
              ≡ Done (put (bit_xor z (bit_and (f a) (f s)))) 1
          step z = done z _ _ (ap (λ u. bit_xor u (bit_and (memory_reg (put z) a) (memory_reg (put z) s))) (mine z)
              ∙ ap (λ u. bit_xor z (bit_and u (memory_reg (put z) s))) (other a z ha na)
              ∙ ap (λ u. bit_xor z (bit_and (f a) u)) (other s z hs ns))

      pub orx_goes : (x : ℕ) → Goes (orx d a s ∷ []) 1 (known (written f d x) zs)
          (known (written f d (bit_xor x (bit_or (f a) (f s)))) zs)
      orx_goes x = goes_xor _ put x (bit_or (f a) (f s)) refl (omega arith) (λ z. step z) (λ z. step z)
        where
          step : (z : ℕ) → Done (memory_with_reg (put z) d (bit_xor (memory_reg (put z) d)
              (bit_or (memory_reg (put z) a) (memory_reg (put z) s)))) 1 ≡ Done (put (bit_xor z (bit_or (f a) (f s)))) 1
          step z = done z _ _ (ap (λ u. bit_xor u (bit_or (memory_reg (put z) a) (memory_reg (put z) s))) (mine z)
              ∙ ap (λ u. bit_xor z (bit_or u (memory_reg (put z) s))) (other a z ha na)
              ∙ ap (λ u. bit_xor z (bit_or (f a) u)) (other s z hs ns))

  -- ---- a word taken out

  -- the registers with a base at an address and the word there in `CONTENT`
  abbrev pub taken : (f : ℕ → ℕ) (r a : ℕ) → List ℕ → ℕ → ℕ
  taken f r a zs = written (written f r a) CONTENT (slice_index zs a)

  there : (f : ℕ → ℕ) (zs : List ℕ) (r x i a : ℕ) → r < n → f r ≡ x → x + i ≡ a → a < 2 ^ 32
      → Goes (addi r i ∷ []) 1 (known f zs) (known (written f r a) zs)
  there f zs r x i a hr e q h =
      goes_to refl (known_same _ _ zs (λ j l. written_same f r x j e)) (ap (λ z. known (written f r z) zs) q)
      (goes_addi _ (λ z. known (written f r z) zs) x i (omega arith) refl (omega arith) (λ z. step z i)
      (λ z. step z (negated i)))
    where
      step : (z u : ℕ) → Done (memory_with_reg (known (written f r z) zs) r
          (sum_of (memory_reg (known (written f r z) zs) r) u)) 1
          ≡ Done (known (written f r (sum_of z u)) zs) 1
      step z u = done f zs r hr z _ _ (ap (λ w. sum_of w u) (mine f zs r hr z))

  abbrev out : (ℕ → ℕ) → ℕ → List ℕ → Memory
  out g z ws = known (written g CONTENT z) ws

  abbrev exchanged : (ℕ → ℕ) → (z : ℕ) → List ℕ → (at word : ℕ) → Memory
  exchanged g z ws at word = record {
    regs = slice_set (tabulated n (written g CONTENT z)) CONTENT (slice_index ws at);
    cells = slice_set ws at word;
  }

  pub word_out : (g : ℕ → ℕ) (zs : List ℕ) (r a : ℕ) → r < n → CONTENT < n → r ≢ CONTENT → g r ≡ a → g CONTENT ≡ 0
      → a < length zs → Goes (exch CONTENT r ∷ []) 1 (known g zs)
      (known (written g CONTENT (slice_index zs a)) (slice_set zs a 0))
  word_out g zs r a hr hc ne e z h =
      goes_to refl (known_same _ _ zs (λ j l. written_same g CONTENT 0 j z)) refl
      (goes_exch _ (out g) a 0 zs h refl (omega arith) (λ z ws. step z ws) (λ z ws. step z ws))
    where
      step : (z : ℕ) (ws : List ℕ) → (if nat_lt (memory_reg (out g z ws) r) (length ws)
          then Done (exchanged g z ws (memory_reg (out g z ws) r) (memory_reg (out g z ws) CONTENT)) 1
          else Bad (memory_reg (out g z ws) r) 0)
          ≡ (if nat_lt a (length ws) then Done (out g (slice_index ws a) (slice_set ws a z)) 1 else Bad a 0)
      step z ws =
          let at_r : memory_reg (out g z ws) r ≡ a = other g ws CONTENT hc r z hr ne ∙ e in
          ap (λ u. if nat_lt u (length ws) then Done (exchanged g z ws u (memory_reg (out g z ws) CONTENT)) 1 else Bad u
          0)
          at_r
          ∙ ap (λ u. if nat_lt a (length ws) then Done (exchanged g z ws a u) 1 else Bad a 0) (mine g ws CONTENT hc z)
          ∙ ap (λ u. if nat_lt a (length ws) then Done (record u { cells = slice_set ws a z }) 1 else Bad a 0)
          (set g ws CONTENT hc z (slice_index ws a))

  pub reach_goes : (b : Bases) (f : ℕ → ℕ) (zs : List ℕ) (sp : Spot) → CONTENT < n → f OBJECT ≡ b.object
      → f FRAME ≡ b.frame → f CONTENT ≡ 0 → spot_address b sp < length zs → length zs ≤ 2 ^ 31
      → Goes (reach_cells sp) 2 (known f zs)
      (known (taken f (base_of sp) (spot_address b sp) zs) (slice_set zs (spot_address b sp) 0))
  reach_goes b f zs (Field i) hc eo ef ec h k =
      let a : ℕ = spot_address b (Field i) in
      goes_cons (there f zs OBJECT b.object (HEADER_WORDS + i) a (omega arith) eo refl (omega arith))
      (word_out (written f OBJECT a) zs OBJECT a (omega arith) hc (λ e. omega arith) (written_at f OBJECT a)
      (written_off f OBJECT a CONTENT (λ e. omega arith) ∙ ec) h)
  reach_goes b f zs (Frame i) hc eo ef ec h k =
      let a : ℕ = spot_address b (Frame i) in
      goes_cons (there f zs FRAME b.frame i a (omega arith) ef refl (omega arith))
      (word_out (written f FRAME a) zs FRAME a (omega arith) hc (λ e. omega arith) (written_at f FRAME a)
      (written_off f FRAME a CONTENT (λ e. omega arith) ∙ ec) h)
