-- The parts of a call that change places: the words of arguments and of the receiver, and OBJECT.
use Rattle.std.proofs.Common.{◌≡◌, ◌≢◌, ℕ, ◌+◌, ◌^◌, ◌<◌, ◌≤◌, Bool, true, false, List, [], ◌∷◌, ◌++◌, length, refl, ap}
use Rattle.std.proofs.Common.{◌∙◌, arith}
use Rattle.std.specs.Prelude.{slice_index, slice_set}
use Rattle.std.proofs.Math.ListN.{length-set}
use Rattle.refine_form.specs.rpp_words.declared.input.TheConstants.{FRAME_WORDS}
use Rattle.refine_form.specs.rpp_words.Words.{is_less}
use Rattle.refine_form.specs.pisa_isa.Machine.{Memory}
use Rattle.refine_form.specs.code_conventions.declared.faults.TheConstants.{NIL, TOUCHED}
use Rattle.refine_form.specs.code_conventions.declared.registers.TheConstants.{CONTENT, FRAME, MOVED, NOUGHT, OBJECT}
use Rattle.refine_form.specs.paired_code.Machine.{Image}
use Rattle.refine_form.specs.paired_code.Layout.{check_equal_cells, check_positive_cells}
use Rattle.refine_form.specs.paired_code.Pieces.{Done, Trapped, Will, outcome_after}
use Rattle.refine_form.specs.paired_code.Rows.{line}
use Rattle.refine_form.proofs.paired_code_laws.Laws.{will_of, will_more}
use Rattle.refine_form.specs.paired_code.Layout.{Equal, Positive}
use Rattle.refine_form.proofs.paired_code_laws.Checks.{runs_passes, runs_fails}
use Rattle.refine_form.specs.code_conventions.Cells.{add, sub, exch}
use Rattle.refine_form.specs.Cells.{around}
use Rattle.refine_form.specs.declared.spot.Spot.{Spot}
use Rattle.refine_form.proofs.Rows.{here, next, will_row}
use Rattle.refine_form.proofs.Rules.{will_in, will_in_trap, will_two, will_two_back}
use Rattle.method_calls.specs.CallCode.{base_of, reach_row, above_cells, take_code, put_code, peek_row, nil_code}
use Rattle.method_calls.specs.CallCode.{onto_code}
use Rattle.method_calls.specs.Facts.{address}
use Rattle.method_calls.proofs.Addresses.{sum_is, difference_is, at_spot, will_reach, will_leave, swaps_moved}
use Rattle.method_calls.proofs.Addresses.{swaps_content, will_raise, will_lower}
use Rattle.method_calls.proofs.Depth.{filled, emptied, above_zero}
use Rattle.method_calls.proofs.Exchanges.{exchanges}
use Rattle.refine_form.proofs.Memories.{mk}

module _ (im : Image) (ob fr : ℕ) (sp : Spot) (cs : List ℕ) (inside : address ob fr sp < length cs)
    (low : address ob fr sp < 2 ^ 32) where
  abbrev at : ℕ
  at = address ob fr sp

  abbrev word : ℕ
  word = slice_index cs at

  abbrev gone : List ℕ
  gone = slice_set cs at 0

  -- the base is at the storage slot
  abbrev on_spot : (content moved flag : ℕ) → List ℕ → Memory
  on_spot b c g l = at_spot ob fr sp b c g l

  still_in : at < length gone
  still_in = omega (arith, length-set cs at 0, inside)

  -- ---- not nil

  module _ (small : word < 2 ^ 31) where
    peeks : Will im (line (peek_row sp)) false (mk 0 ob fr 0 0 0 0 0 cs) (λ o. o ≡ Done (on_spot word 0 0 gone) 2)
    peeks =
        will_two im (line (reach_row sp)) (line (exch CONTENT (base_of sp) ∷ [])) _ (on_spot 0 0 0 cs) 1 _
        (will_reach im ob fr 0 0 0 cs sp low)
        (will_more im _ false _ _ _ (λ o q. ap (outcome_after 1) q) (swaps_content im ob fr 0 0 0 cs false sp inside))

    unpeeks : Will im (line (peek_row sp)) true (on_spot word 0 0 gone) (λ o. o ≡ Done (mk 0 ob fr 0 0 0 0 0 cs) 2)
    unpeeks =
        will_two_back im (line (reach_row sp)) (line (exch CONTENT (base_of sp) ∷ [])) _ (on_spot 0 0 0 cs) 1 _
        (will_more im _ true _ _ _ (λ o q. q ∙ ap (λ v. Done (on_spot v 0 0 (slice_set gone at word)) 1)
        (emptied cs at inside) ∙ ap (λ l. Done (on_spot 0 0 0 l) 1) (filled cs at))
        (swaps_content im ob fr word 0 0 gone true sp still_in))
        (will_more im _ true _ _ _ (λ o q. ap (outcome_after 1) q) (will_leave im ob fr 0 0 0 cs sp low))

    pub nil_passes : (d : Bool) → 0 < word → Will im (nil_code sp) d (mk 0 ob fr 0 0 0 0 0 cs)
        (λ o. o ≡ Done (mk 0 ob fr 0 0 0 0 0 cs) 6)
    nil_passes d pos =
        will_in im d (line (peek_row sp)) (check_positive_cells CONTENT NIL) _ _ _ _ 2 2 2 peeks
        (will_of im _ d _ _ _ (runs_passes im d (Positive CONTENT) NIL (on_spot word 0 0 gone)
        (above_zero word pos small))
        refl) unpeeks

    pub nil_traps : word ≡ 0 → Will im (nil_code sp) false (mk 0 ob fr 0 0 0 0 0 cs)
        (λ o. (k : ℕ) × (k ≤ 3) × (o ≡ Trapped NIL k))
    nil_traps z =
        let t : is_less 0 word ≡ false = ap (is_less 0) z in
        will_in_trap im false (line (peek_row sp)) (check_positive_cells CONTENT NIL) _ _ 2 5 1 peeks
        (will_of im _ false _ _ _ (runs_fails im false (Positive CONTENT) NIL (on_spot word 0 0 gone) t)
        (1, omega arith, refl))

  -- ---- a word that leaves its cell

  pub takes : Will im (take_code sp) false (mk 0 ob fr 0 0 0 0 0 cs) (λ o. o ≡ Done (mk 0 ob fr 0 0 word 0 0 gone) 5)
  takes =
      will_in im false (line (reach_row sp)) (check_equal_cells MOVED NOUGHT TOUCHED
      ++ line (exch MOVED (base_of sp) ∷ [])) _ _ _ _
      1 3 1
      (will_reach im ob fr 0 0 0 cs sp low)
      (will_two im (check_equal_cells MOVED NOUGHT TOUCHED) (line (exch MOVED (base_of sp) ∷ [])) _ _ 2 _
      (will_of im _ false _ _ _ (runs_passes im false (Equal MOVED NOUGHT) TOUCHED (on_spot 0 0 0 cs) refl) refl)
      (will_more im _ false _ _ _ (λ o q. ap (outcome_after 2) q) (swaps_moved im ob fr 0 0 0 cs false sp inside)))
      (will_leave im ob fr 0 word 0 gone sp low)

  pub gives_back : (x : ℕ) → word ≡ 0 → Will im (take_code sp) true (mk 0 ob fr 0 0 x 0 0 cs)
      (λ o. o ≡ Done (mk 0 ob fr 0 0 0 0 0 (slice_set cs at x)) 5)
  gives_back x z =
      will_in im true (line (reach_row sp)) (check_equal_cells MOVED NOUGHT TOUCHED
      ++ line (exch MOVED (base_of sp) ∷ [])) _ _ _ _ 1
      3 1
      (will_reach im ob fr 0 x 0 cs sp low)
      (will_two_back im (check_equal_cells MOVED NOUGHT TOUCHED) (line (exch MOVED (base_of sp) ∷ [])) _
      (on_spot 0 0 0 (slice_set cs at x)) 1 _
      (will_more im _ true _ _ _ (λ o q. q ∙ ap (λ v. Done (on_spot 0 v 0 (slice_set cs at x)) 1) z)
      (swaps_moved im ob fr 0 x 0 cs true sp inside))
      (will_of im _ true _ _ _ (runs_passes im true (Equal MOVED NOUGHT) TOUCHED (on_spot 0 0 0 (slice_set cs at x))
      refl) refl))
      (will_leave im ob fr 0 0 0 (slice_set cs at x) sp low)

  pub finds_touched : (x : ℕ) → word ≢ 0 → Will im (take_code sp) true (mk 0 ob fr 0 0 x 0 0 cs)
      (λ o. (k : ℕ) × (k ≤ 3) × (o ≡ Trapped TOUCHED k))
  finds_touched x nz =
      let c = runs_fails im true (Equal MOVED NOUGHT) TOUCHED (on_spot 0 word 0 (slice_set cs at x)) nz in
      will_in_trap im true (line (reach_row sp)) (check_equal_cells MOVED NOUGHT TOUCHED
      ++ line (exch MOVED (base_of sp) ∷ [])) _ _
      1 15 2
      (will_reach im ob fr 0 x 0 cs sp low)
      (will_two_back im (check_equal_cells MOVED NOUGHT TOUCHED) (line (exch MOVED (base_of sp) ∷ [])) _
      (on_spot 0 word 0 (slice_set cs at x)) 1 _ (swaps_moved im ob fr 0 x 0 cs true sp inside)
      (will_of im _ true _ _ _ c (2, omega arith, refl)))

-- ---- a word of the frame above

module _ (im : Image) (ob fr w : ℕ) (cs : List ℕ) (inside : fr + (FRAME_WORDS + w) < length cs)
    (low : fr + (FRAME_WORDS + w) < 2 ^ 32) where
  abbrev above : ℕ
  above = fr + (FRAME_WORDS + w)

  swaps_above : (d : Bool) (x y : ℕ) → slice_index cs above ≡ y
      → Will im (line (exch MOVED FRAME ∷ [])) d (mk 0 ob above 0 0 x 0 0 cs)
      (λ o. o ≡ Done (mk 0 ob above 0 0 y 0 0 (slice_set cs above x)) 1)
  swaps_above false x y e =
      will_row im false (exch MOVED FRAME ∷ []) 1 _ _ (next refl (omega arith)
      (exchanges false MOVED FRAME (mk 0 ob above 0 0 x 0 0 cs) inside
      ∙ ap (λ v. Done (mk 0 ob above 0 0 v 0 0 (slice_set cs above x)) 1) e) here)
  swaps_above true x y e =
      will_row im true (exch MOVED FRAME ∷ []) 1 _ _ (next refl (omega arith)
      (exchanges true MOVED FRAME (mk 0 ob above 0 0 x 0 0 cs) inside
      ∙ ap (λ v. Done (mk 0 ob above 0 0 v 0 0 (slice_set cs above x)) 1) e) here)

  pub puts : (d : Bool) (x y : ℕ) → slice_index cs above ≡ y
      → Will im (put_code w) d (mk 0 ob fr 0 0 x 0 0 cs)
      (λ o. o ≡ Done (mk 0 ob fr 0 0 y 0 0 (slice_set cs above x)) 3)
  puts d x y e =
      will_in im d (line (above_cells w)) (line (exch MOVED FRAME ∷ [])) _ _ _ _ 1 1 1
      (will_raise im ob fr x cs w low) (swaps_above d x y e) (will_lower im ob fr y (slice_set cs above x) w low)

-- ---- OBJECT

module _ (im : Image) (ob fr recv : ℕ) (cs : List ℕ) (inside : fr + (FRAME_WORDS + 1) < length cs)
    (small_ob : ob < 2 ^ 32)
    (small_fr : fr < 2 ^ 23) (small : recv < 2 ^ 32) where
  abbrev up : ℕ
  up = fr + (FRAME_WORDS + 1)

  up_low : up < 2 ^ 32
  up_low = omega (arith, small_fr)

  pub turns_to : slice_index cs up ≡ 0 → Will im onto_code false (mk 0 ob fr 0 0 recv 0 0 cs)
      (λ o. o ≡ Done (mk 0 recv fr 0 0 0 0 0 (slice_set cs up ob)) 5)
  turns_to z =
      let cs1 = slice_set cs up ob in
      will_two im (around (line (above_cells 1)) (line (exch OBJECT FRAME ∷ [])))
      (line (add OBJECT MOVED ∷ sub MOVED OBJECT ∷ [])) _
      (mk 0 0 fr 0 0 recv 0 0 cs1) 3 _
      (will_in im false (line (above_cells 1)) (line (exch OBJECT FRAME ∷ [])) _ _ _ _ 1 1 1
      (will_raise im ob fr recv cs 1 up_low)
      (will_row im false (exch OBJECT FRAME ∷ []) 1 _ _ (next refl (omega arith)
      (exchanges false OBJECT FRAME (mk 0 ob up 0 0 recv 0 0 cs) inside
      ∙ ap (λ v. Done (mk 0 v up 0 0 recv 0 0 cs1) 1) z) here))
      (will_lower im 0 fr recv cs1 1 up_low))
      (will_more im _ false _ _ _ (λ o q. ap (outcome_after 3) q)
      (will_row im false (add OBJECT MOVED ∷ sub MOVED OBJECT ∷ [])
      2 _ _
      (next refl (omega arith) (ap (λ v. Done (mk 0 v fr 0 0 recv 0 0 cs1) 1) (sum_is 0 recv recv (omega arith) small))
      (next refl (omega arith) (ap (λ v. Done (mk 0 recv fr 0 0 v 0 0 cs1) 1)
      (difference_is recv recv 0 (omega arith) small)) here))))

  pub turns_from : slice_index cs up ≡ ob → Will im onto_code true (mk 0 recv fr 0 0 0 0 0 cs)
      (λ o. o ≡ Done (mk 0 ob fr 0 0 recv 0 0 (slice_set cs up 0)) 5)
  turns_from z =
      let cs1 = slice_set cs up 0 in
      will_two_back im (around (line (above_cells 1)) (line (exch OBJECT FRAME ∷ [])))
      (line (add OBJECT MOVED ∷ sub MOVED OBJECT ∷ [])) _
      (mk 0 0 fr 0 0 recv 0 0 cs) 2 _
      (will_row im true (sub MOVED OBJECT ∷ add OBJECT MOVED ∷ []) 2 _ _
      (next refl (omega arith) (ap (λ v. Done (mk 0 recv fr 0 0 v 0 0 cs) 1) (sum_is 0 recv recv (omega arith) small))
      (next refl (omega arith) (ap (λ v. Done (mk 0 v fr 0 0 recv 0 0 cs) 1)
      (difference_is recv recv 0 (omega arith) small)) here)))
      (will_more im _ true _ _ _ (λ o q. ap (outcome_after 2) q) (will_in im true (line (above_cells 1))
      (line (exch OBJECT FRAME ∷ [])) _
      _ _ _ 1 1 1 (will_raise im 0 fr recv cs 1 up_low)
      (will_row im true (exch OBJECT FRAME ∷ []) 1 _ _ (next refl (omega arith)
      (exchanges true OBJECT FRAME (mk 0 0 up 0 0 recv 0 0 cs) inside
      ∙ ap (λ v. Done (mk 0 v up 0 0 recv 0 0 cs1) 1) z) here))
      (will_lower im ob fr recv cs1 1 up_low)))
