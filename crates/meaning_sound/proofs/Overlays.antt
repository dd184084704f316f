-- Reads and writes of a list that is overlaid.
use Rattle.std.proofs.Common.{◌≡◌, ◌∙◌, sym, ap, refl, ℕ, zero, suc, ◌+◌, ◌-◌, ◌<◌, ◌≤◌, ◌⊎◌, inl, inr, ⊎_elim, List}
use Rattle.std.proofs.Common.{[], ◌∷◌, ◌++◌, length, take, drop, arith}
use Rattle.std.specs.Prelude.{slice_index, slice_set, replicate}
use Rattle.roopl_semantics.specs.Layout.{overlaid}

-- the same by recursion
abbrev pub laid : List ℕ → ℕ → List ℕ → List ℕ
laid [] a ws = []
laid (x ∷ xs) zero [] = x ∷ xs
laid (x ∷ xs) zero (w ∷ ws) = w ∷ laid xs zero ws
laid (x ∷ xs) (suc a) ws = x ∷ laid xs a ws

take_nil : (a : ℕ) → take {A = ℕ} a [] ≡ []
take_nil zero = refl
take_nil (suc a) = refl

drop_nil : (a : ℕ) → drop {A = ℕ} a [] ≡ []
drop_nil zero = refl
drop_nil (suc a) = refl

-- the three parts, with known lengths
laid_is : (xs : List ℕ) (a : ℕ) (ws : List ℕ) (room skip : ℕ) → room ≡ length xs - a → skip ≡ a + length ws
    → laid xs a ws ≡ take a xs ++ take room ws ++ drop skip xs
laid_is [] a ws zero skip r s = sym (ap (λ z. z ++ [] ++ drop skip []) (take_nil a) ∙ drop_nil skip)
laid_is [] a ws (suc room) skip r s = absurd (omega arith)
laid_is (x ∷ xs) zero [] zero skip r s = absurd (omega arith)
laid_is (x ∷ xs) zero [] (suc room) zero r s = refl
laid_is (x ∷ xs) zero [] (suc room) (suc skip) r s = absurd (omega arith)
laid_is (x ∷ xs) zero (w ∷ ws) zero skip r s = absurd (omega arith)
laid_is (x ∷ xs) zero (w ∷ ws) (suc room) zero r s = absurd (omega arith)
laid_is (x ∷ xs) zero (w ∷ ws) (suc room) (suc skip) r s =
    ap (λ z. w ∷ z) (laid_is xs zero ws room skip (omega arith) (omega arith))
laid_is (x ∷ xs) (suc a) ws room zero r s = absurd (omega arith)
laid_is (x ∷ xs) (suc a) ws room (suc skip) r s = ap (λ z. x ∷ z)
    (laid_is xs a ws room skip (omega arith) (omega arith))

pub overlaid_is : (xs : List ℕ) (a : ℕ) (ws : List ℕ) → overlaid xs a ws ≡ laid xs a ws
overlaid_is xs a ws = sym (laid_is xs a ws (length xs - a) (a + length ws) refl refl)

length_laid : (xs : List ℕ) (a : ℕ) (ws : List ℕ) → length (laid xs a ws) ≡ length xs
length_laid [] a ws = refl
length_laid (x ∷ xs) zero [] = refl
length_laid (x ∷ xs) zero (w ∷ ws) = ap suc (length_laid xs zero ws)
length_laid (x ∷ xs) (suc a) ws = ap suc (length_laid xs a ws)

laid_inside : (xs : List ℕ) (a : ℕ) (ws : List ℕ) (p i : ℕ) → p ≡ a + i → i < length ws → p < length xs
    → slice_index (laid xs a ws) p ≡ slice_index ws i
laid_inside [] a ws p i e h l = absurd (omega arith)
laid_inside (x ∷ xs) zero [] p i e h l = absurd (omega arith)
laid_inside (x ∷ xs) zero (w ∷ ws) zero zero e h l = refl
laid_inside (x ∷ xs) zero (w ∷ ws) zero (suc i) e h l = absurd (omega arith)
laid_inside (x ∷ xs) zero (w ∷ ws) (suc p) zero e h l = absurd (omega arith)
laid_inside (x ∷ xs) zero (w ∷ ws) (suc p) (suc i) e h l =
    laid_inside xs zero ws p i (omega arith) (omega arith) (omega arith)
laid_inside (x ∷ xs) (suc a) ws zero i e h l = absurd (omega arith)
laid_inside (x ∷ xs) (suc a) ws (suc p) i e h l = laid_inside xs a ws p i (omega arith) h (omega arith)

laid_outside : (xs : List ℕ) (a : ℕ) (ws : List ℕ) (p : ℕ) → (p < a) ⊎ (a + length ws ≤ p)
    → slice_index (laid xs a ws) p ≡ slice_index xs p
laid_outside [] a ws p h = refl
laid_outside (x ∷ xs) zero [] p h = refl
laid_outside (x ∷ xs) zero (w ∷ ws) zero h = absurd (⊎_elim (λ l. let z : 0 < 0 = l in omega arith) (λ g. omega arith)
    h)
laid_outside (x ∷ xs) zero (w ∷ ws) (suc p) h = laid_outside xs zero ws p
    (⊎_elim (λ l. absurd (omega arith)) (λ g. inr (omega arith)) h)
laid_outside (x ∷ xs) (suc a) ws zero h = refl
laid_outside (x ∷ xs) (suc a) ws (suc p) h = laid_outside xs a ws p
    (⊎_elim (λ l. inl (omega arith)) (λ g. inr (omega arith)) h)

laid_set_inside : (xs : List ℕ) (a : ℕ) (ws : List ℕ) (p i w : ℕ) → p ≡ a + i → i < length ws
    → slice_set (laid xs a ws) p w ≡ laid xs a (slice_set ws i w)
laid_set_inside [] a ws p i w e h = refl
laid_set_inside (x ∷ xs) zero [] p i w e h = absurd (omega arith)
laid_set_inside (x ∷ xs) zero (v ∷ ws) zero zero w e h = refl
laid_set_inside (x ∷ xs) zero (v ∷ ws) zero (suc i) w e h = absurd (omega arith)
laid_set_inside (x ∷ xs) zero (v ∷ ws) (suc p) zero w e h = absurd (omega arith)
laid_set_inside (x ∷ xs) zero (v ∷ ws) (suc p) (suc i) w e h =
    ap (λ z. v ∷ z) (laid_set_inside xs zero ws p i w (omega arith) (omega arith))
laid_set_inside (x ∷ xs) (suc a) ws zero i w e h = absurd (omega arith)
laid_set_inside (x ∷ xs) (suc a) ws (suc p) i w e h = ap (λ z. x ∷ z) (laid_set_inside xs a ws p i w (omega arith) h)

laid_set_outside : (xs : List ℕ) (a : ℕ) (ws : List ℕ) (p w : ℕ) → (p < a) ⊎ (a + length ws ≤ p)
    → slice_set (laid xs a ws) p w ≡ laid (slice_set xs p w) a ws
laid_set_outside [] a ws p w h = refl
laid_set_outside (x ∷ xs) zero [] zero w h = refl
laid_set_outside (x ∷ xs) zero [] (suc p) w h = refl
laid_set_outside (x ∷ xs) zero (v ∷ ws) zero w h = absurd
    (⊎_elim (λ l. let z : 0 < 0 = l in omega arith) (λ g. omega arith) h)
laid_set_outside (x ∷ xs) zero (v ∷ ws) (suc p) w h = ap (λ z. v ∷ z)
    (laid_set_outside xs zero ws p w (⊎_elim (λ l. absurd (omega arith)) (λ g. inr (omega arith)) h))
laid_set_outside (x ∷ xs) (suc a) ws zero w h = refl
laid_set_outside (x ∷ xs) (suc a) ws (suc p) w h = ap (λ z. x ∷ z)
    (laid_set_outside xs a ws p w (⊎_elim (λ l. inl (omega arith)) (λ g. inr (omega arith)) h))

-- zeros over zeros
laid_zeros : (n a k : ℕ) → laid (replicate n 0) a (replicate k 0) ≡ replicate n 0
laid_zeros zero a k = refl
laid_zeros (suc n) zero zero = refl
laid_zeros (suc n) zero (suc k) = ap (λ z. 0 ∷ z) (laid_zeros n zero k)
laid_zeros (suc n) (suc a) k = ap (λ z. 0 ∷ z) (laid_zeros n a k)

-- zeros at the end of what is laid over zeros
laid_padded : (n : ℕ) (ws : List ℕ) (k : ℕ) → laid (replicate n 0) 0 (ws ++ replicate k 0) ≡ laid (replicate n 0) 0 ws
laid_padded zero ws k = refl
laid_padded (suc n) [] zero = refl
laid_padded (suc n) [] (suc k) = ap (λ z. 0 ∷ z) (laid_zeros n 0 k)
laid_padded (suc n) (w ∷ ws) k = ap (λ z. w ∷ z) (laid_padded n ws k)

-- ---- the same of `overlaid`

pub length_overlaid : (xs : List ℕ) (a : ℕ) (ws : List ℕ) → length (overlaid xs a ws) ≡ length xs
length_overlaid xs a ws = ap length (overlaid_is xs a ws) ∙ length_laid xs a ws

pub index_inside : (xs : List ℕ) (a : ℕ) (ws : List ℕ) (p i : ℕ) → p ≡ a + i → i < length ws → p < length xs
    → slice_index (overlaid xs a ws) p ≡ slice_index ws i
index_inside xs a ws p i e h l = ap (λ z. slice_index z p) (overlaid_is xs a ws) ∙ laid_inside xs a ws p i e h l

pub index_outside : (xs : List ℕ) (a : ℕ) (ws : List ℕ) (p : ℕ) → (p < a) ⊎ (a + length ws ≤ p)
    → slice_index (overlaid xs a ws) p ≡ slice_index xs p
index_outside xs a ws p h = ap (λ z. slice_index z p) (overlaid_is xs a ws) ∙ laid_outside xs a ws p h

pub set_inside : (xs : List ℕ) (a : ℕ) (ws : List ℕ) (p i w : ℕ) → p ≡ a + i → i < length ws
    → slice_set (overlaid xs a ws) p w ≡ overlaid xs a (slice_set ws i w)
set_inside xs a ws p i w e h = ap (λ z. slice_set z p w) (overlaid_is xs a ws) ∙ laid_set_inside xs a ws p i w e h
    ∙ sym (overlaid_is xs a (slice_set ws i w))

pub set_outside : (xs : List ℕ) (a : ℕ) (ws : List ℕ) (p w : ℕ) → (p < a) ⊎ (a + length ws ≤ p)
    → slice_set (overlaid xs a ws) p w ≡ overlaid (slice_set xs p w) a ws
set_outside xs a ws p w h = ap (λ z. slice_set z p w) (overlaid_is xs a ws) ∙ laid_set_outside xs a ws p w h
    ∙ sym (overlaid_is (slice_set xs p w) a ws)

pub zeros_padded : (n : ℕ) (ws : List ℕ) (k : ℕ) → overlaid (replicate n 0) 0 (ws ++ replicate k 0)
    ≡ overlaid (replicate n 0) 0 ws
zeros_padded n ws k = overlaid_is (replicate n 0) 0 (ws ++ replicate k 0) ∙ laid_padded n ws k
    ∙ sym (overlaid_is (replicate n 0) 0 ws)

pub none_over_zeros : (n : ℕ) → overlaid (replicate n 0) 0 [] ≡ replicate n 0
none_over_zeros n = overlaid_is (replicate n 0) 0 [] ∙ laid_zeros n 0 0
