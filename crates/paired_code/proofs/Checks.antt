-- A check of two branches over a DATA cell.
use Rattle.std.proofs.Common.{◌≡◌, ◌≢◌, ℕ, ◌+◌, ◌^◌, ◌<◌, Bool, true, false, Some, refl, sym, ap}
use Rattle.std.proofs.Common.{◌∙◌, subst, ⊎_elim, arith}
use Rattle.std.specs.Prelude.{nat_eq, nat_lt}
use Rattle.std.proofs.lemmas.Bool.Decides.{nat_tests}
use Rattle.std.proofs.lemmas.Bool.{cases_lt}
use Rattle.std.proofs.lemmas.Int.{ints}
use Rattle.code_conventions.specs.rpp_words.Words.{is_less}
use Rattle.code_conventions.specs.pisa_isa.declared.machine.Stop.TheVariants.{Trap}
use Rattle.code_conventions.specs.pisa_isa.Machine.{stop_at, fetch, Memory}
use Rattle.paired_code.specs.Cells.{data_word}
use Rattle.paired_code.specs.Machine.{Image, memory_reg}
use Rattle.paired_code.specs.Layout.{Frame, frame_address, at, Stands, between, Test, Equal, Differ, Positive}
use Rattle.paired_code.specs.Layout.{branch_of, test_cells}
use Rattle.paired_code.specs.Laws.{TestPasses, TestFails}
use Rattle.paired_code.specs.Pieces.{Inside, cell, Done, Trapped, Way, Halts, finishes, traps, Runs, near_end, far_end}
use Rattle.paired_code.proofs.Words.{is_positive, near, near_is}
use Rattle.paired_code.proofs.Steps.{oriented, either_way, Takes, Calm, Has, calm_way, hop_way, takes_eq, calm_eq}
use Rattle.paired_code.proofs.Steps.{takes_ne, calm_ne, takes_gt, calm_gt}
use Rattle.paired_code.proofs.Ways.{has, from_to}
use Rattle.paired_code.proofs.Branch.{between_same}

data_is : (flip : Bool) (code : ℕ) → oriented flip (data_word code) ≡ data_word code
data_is false code = refl
data_is true code = ap data_word (either_way (nat_lt code (2 ^ 32)) code)

module _ (im : Image) (f : Frame) (i code : ℕ) (t : Test) where
  record Guard : Type 0 where
    first : Has im f i (branch_of t (between i (i + 2)))
    trap : fetch im.code (frame_address f (i + 1)) ≡ Some (data_word code)
    last : Has im f (i + 2) (branch_of t (between (i + 2) i))

  guard : i + 3 < 2 ^ 30 → Stands im f i (test_cells t code) → Guard
  guard h s =
      let s1 = s.1 in let s2 = s1.1 in
      let there : between 0 2 ≡ between i (i + 2) =
      between_same 0 2 i (i + 2) (omega arith) (omega arith) (omega arith) (omega arith) (omega arith) in
      let back : between 2 0 ≡ between (i + 2) i =
      between_same 2 0 (i + 2) i (omega arith) (omega arith) (omega arith) (omega arith) (omega arith) in
      let on : i + 1 + 1 ≡ i + 2 = omega arith in
      record {
        first = subst (λ z. Has im f i (branch_of t z)) there (has im f i _ s.0);
        trap = has im f (i + 1) (data_word code) s1.0 ∙ ap Some (data_is f.flip code);
        last = subst (λ z. Has im f z (branch_of t (between (i + 2) i))) on
            (subst (λ z. Has im f (i + 1 + 1) (branch_of t z)) back (has im f (i + 1 + 1) _ s2.0));
      }

  module _ (l : i + 3 < 2 ^ 30) (there : Guard) (m : Memory) where
    -- both branches are taken
    passed : ((w : ℕ) → Takes f.flip (branch_of t w) m w) → (d : Bool)
        → Way im f d i (i + 3) 2 (near_end d i (i + 3)) m (far_end d i (i + 3)) m
    passed k false = from_to refl refl (let e : i + 2 + 1 ≡ i + 3 = omega arith in e)
        (hop_way im f false i (i + 3) i (i + 2) _ _ m (λ e. omega arith) (omega arith) (omega arith) (omega arith)
        (omega arith) (omega arith) (omega arith) there.first there.last (k _) (k _))
    passed k true = from_to refl (let e : i + 2 + 1 ≡ i + 3 = omega arith in e) refl
        (hop_way im f true i (i + 3) (i + 2) i _ _ m (λ e. omega arith) (omega arith) (omega arith) (omega arith)
        (omega arith) (omega arith) (omega arith) there.last there.first (k _) (k _))

    -- one is not, and the DATA cell is next
    halted : (d : Bool) (k g : ℕ) → Way im f d i (i + 3) k g m (near d (i + 1)) m
        → Halts im f d i (i + 3) k g m (Trap code)
    halted d k g w = record {
      last = at f d (near d (i + 1)) m;
      depth = 0;
      path = w.path;
      stops = subst (λ z. stop_at (fetch im.code z) (at f d (near d (i + 1)) m) ≡ Some (Trap code))
          (sym (near_is f.flip d f.base (i + 1))) (ap (λ o. stop_at o (at f d (near d (i + 1)) m)) there.trap);
      inside = subst (λ z. Inside f i (i + 3) 0 z 0) (sym (near_is f.flip d f.base (i + 1)))
          (cell (i + 1) (omega arith) (omega arith));
    }

    stopped : ((w : ℕ) (d : Bool) → Calm f.flip d (branch_of t w) m m) → (d : Bool)
        → Halts im f d i (i + 3) 1 (near_end d i (i + 3)) m (Trap code)
    stopped k false = halted false 1 i
        (calm_way im f false i (i + 3) i _ m m (omega arith) (omega arith) there.first (k _ false))
    stopped k true = halted true 1 (i + 3)
        (from_to refl (let e : i + 2 + 1 ≡ i + 3 = omega arith in e) (let e : i + 2 ≡ i + 1 + 1 = omega arith in e)
        (calm_way im f true i (i + 3) (i + 2) _ m m (omega arith) (omega arith) there.last (k _ true)))

equal_words : (x y : ℕ) → x ≡ y → nat_eq x y ≡ true
equal_words x y e = grind (arith, nat_tests)

other_words : (x y : ℕ) → x ≢ y → nat_eq x y ≡ false
other_words x y n = grind (arith, nat_tests)

-- the two ways to say that a word is above 0
positive_is_less : (w : ℕ) → is_positive w ≡ is_less 0 w
positive_is_less w = ⊎_elim (λ l. grind (arith, ints, nat_tests)) (λ g. grind (arith, ints, nat_tests))
    (cases_lt w (2 ^ 31))

taken : (flip : Bool) (t : Test) (m : Memory) (w : ℕ) → TestPasses t m → Takes flip (branch_of t w) m w
taken flip (Equal r s) m w h = takes_eq flip r s m w (equal_words (memory_reg m r) (memory_reg m s) h)
taken flip (Differ r s) m w h = takes_ne flip r s m w (other_words (memory_reg m r) (memory_reg m s) h)
taken flip (Positive r) m w h = takes_gt flip r m w (positive_is_less (memory_reg m r) ∙ h)

not_taken : (flip d : Bool) (t : Test) (m : Memory) (w : ℕ) → TestFails t m → Calm flip d (branch_of t w) m m
not_taken flip d (Equal r s) m w h = calm_eq flip d r s m w (other_words (memory_reg m r) (memory_reg m s) h)
not_taken flip d (Differ r s) m w h = calm_ne flip d r s m w (equal_words (memory_reg m r) (memory_reg m s) h)
not_taken flip d (Positive r) m w h = calm_gt flip d r m w (positive_is_less (memory_reg m r) ∙ h)

-- if the test passes, nothing happens
pub runs_passes : (im : Image) (d : Bool) (t : Test) (code : ℕ) (m : Memory) → TestPasses t m
    → Runs im (test_cells t code) d m (Done m 2)
runs_passes im d t code m h = record {
  run = λ f i l st. finishes (passed im f i code t l (guard im f i code t l st) m (λ w. taken f.flip t m w h) d);
}

-- if it fails, the DATA cell stops the run
pub runs_fails : (im : Image) (d : Bool) (t : Test) (code : ℕ) (m : Memory) → TestFails t m
    → Runs im (test_cells t code) d m (Trapped code 1)
runs_fails im d t code m h = record {
  run = λ f i l st. traps (stopped im f i code t l (guard im f i code t l st) m
      (λ w d. not_taken f.flip d t m w h) d);
}
