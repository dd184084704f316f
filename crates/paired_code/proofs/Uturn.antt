-- A fragment run the other way by two cells around it, whose own cells stay as they are.
use Rattle.std.proofs.Common.{◌≡◌, ◌≢◌, ℕ, ◌^◌, ◌<◌, ◌≤◌, Bool, true, false, List, [], ◌∷◌, Some}
use Rattle.std.proofs.Common.{None, refl, sym, ap, ◌∙◌, subst, arith}
use Rattle.std.specs.Prelude.{not, ℤ}
use Rattle.code_conventions.specs.Cells.{bra}
use Rattle.paired_code.specs.Cells.{rbra}
use Rattle.code_conventions.specs.rpp_words.Words.{sum_of, negated}
use Rattle.code_conventions.specs.pisa_isa.Machine.{effect, State, stop_at, Memory}
use Rattle.paired_code.proofs.Words.{turned, flipped, toward, first_br, second_br, goes_to, near, far, near_is, far_is}
use Rattle.paired_code.specs.Machine.{state, Image, act, is_end, change, Same, same}
use Rattle.paired_code.specs.Layout.{bool_xor, Frame, spot, frame_address, at, between}
use Rattle.paired_code.specs.Pieces.{cell, Path}
use Rattle.paired_code.proofs.Paths.{append}
use Rattle.paired_code.proofs.Steps.{oriented, Has, takes_bra}
use Rattle.paired_code.proofs.Call.{step_to, acts_to}

xor_not : (a b : Bool) → not (bool_xor a b) ≡ bool_xor a (not b)
xor_not false b = refl
xor_not true false = refl
xor_not true true = refl

turn_br : (flip d : Bool) (x y : ℕ) → x ≢ y → x < 2 ^ 30 → y < 2 ^ 30
    → negated (sum_of 0 (turned (bool_xor flip d) (flipped flip (between x y)))) ≡ toward (not d) x y
turn_br flip d x y n h k = ap negated (first_br flip d x y n h k) ∙ go d
  where
    go : (d : Bool) → negated (toward d x y) ≡ toward (not d) x y
    go false = omega arith
    go true = omega arith

rbra_acts : (flip k : Bool) (w : ℕ) (pc : ℤ) (br : ℕ) (m : Memory)
    → effect (oriented flip (rbra w)) (state pc br k m) ≡ state pc (negated (sum_of br (turned k (flipped flip w))))
    (not k) m
rbra_acts false false w pc br m = refl
rbra_acts false true w pc br m = refl
rbra_acts true false w pc br m = refl
rbra_acts true true w pc br m = refl

rbra_goes : (flip : Bool) (w : ℕ) (t : State) → stop_at (Some (oriented flip (rbra w))) t ≡ None
rbra_goes false w t = refl
rbra_goes true w t = refl

rbra_own : (flip : Bool) (w : ℕ) → is_end (oriented flip (rbra w)) ≡ false
rbra_own false w = refl
rbra_own true w = refl

rbra_level : (flip : Bool) (w : ℕ) (rs : List ℕ) (t : State) → change rs (oriented flip (rbra w)) t ≡ Same
rbra_level false w rs t = refl
rbra_level true w rs t = refl

module _ (im : Image) (f : Frame) (a b x y : ℕ) (ne : x ≢ y) (hx : x < 2 ^ 30) (hy : y < 2 ^ 30) (lx : a ≤ x)
    (ux : x < b) (ly : a ≤ y) (uy : y < b) (at_x : Has im f x (rbra (between x y)))
    (at_y : Has im f y (bra (between y x))) (m : Memory) where
  en : y ≢ x
  en e = ne (sym e)

  abbrev here : Bool → Bool
  here d = bool_xor f.flip d

  -- RBRA first
  pub turn_first : (d : Bool) → Path im f a b 2 0 (at f d (near d x) m) 0 (at f (not d) (far (not d) y) m)
  turn_first d =
      let s0 = state (frame_address f x) 0 (here d) m in
      let s1 = state (frame_address f y) (toward (not d) x y) (here (not d)) m in
      let s2 = at f (not d) (far (not d) y) m in
      let q = takes_bra f.flip m (between y x) in
      let e1 : act (oriented f.flip (rbra (between x y))) s0 ≡ s1 =
      acts_to (oriented f.flip (rbra (between x y))) (frame_address f x) (frame_address f y) 0 (toward (not d) x y)
      (here d)
      (here (not d)) m m (rbra_acts f.flip (here d) (between x y) (frame_address f x) 0 m
      ∙ ap (λ v. state (frame_address f x) v (not (here d)) m) (turn_br f.flip d x y ne hx hy)
      ∙ ap (λ k. state (frame_address f x) (toward (not d) x y) k m) (xor_not f.flip d))
      (goes_to f.flip (not d) f.base x y ne hx hy) in
      let p1 = step_to im f a b 0 0 (oriented f.flip (rbra (between x y))) Same s0 s1 (cell x lx ux) at_x
      (rbra_own f.flip (between x y)) (rbra_goes f.flip (between x y) s0)
      (rbra_level f.flip (between x y) im.routines s0) same e1 in
      let e2 : act (oriented f.flip (bra (between y x))) s1 ≡ s2 =
      acts_to (oriented f.flip (bra (between y x))) (frame_address f y) (spot f.flip (not d) f.base (far (not d) y))
      (toward (not d) x y) 0 (here (not d)) (here (not d)) m m
      (q.acts (frame_address f y) (toward (not d) x y) (here (not d))
      ∙ ap (λ v. state (frame_address f y) v (here (not d)) m) (second_br f.flip (not d) x y ne hx hy))
      (far_is f.flip (not d) f.base y) in
      let p2 = step_to im f a b 0 0 (oriented f.flip (bra (between y x))) Same s1 s2 (cell y ly uy) at_y q.own
      (q.goes (frame_address f y) (toward (not d) x y) (here (not d)))
      (q.level im.routines (frame_address f y) (toward (not d) x y) (here (not d))) same e2 in
      subst (λ z. Path im f a b 2 0 (state z 0 (here d) m) 0 s2) (sym (near_is f.flip d f.base x)) (append p1 p2)

  -- RBRA last
  pub turn_last : (d : Bool) → Path im f a b 2 0 (at f d (near d y) m) 0 (at f (not d) (far (not d) x) m)
  turn_last d =
      let s0 = state (frame_address f y) 0 (here d) m in
      let s1 = state (frame_address f x) (toward d y x) (here d) m in
      let s2 = at f (not d) (far (not d) x) m in
      let q = takes_bra f.flip m (between y x) in
      let e1 : act (oriented f.flip (bra (between y x))) s0 ≡ s1 =
      acts_to (oriented f.flip (bra (between y x))) (frame_address f y) (frame_address f x) 0 (toward d y x) (here d)
      (here d) m m
      (q.acts (frame_address f y) 0 (here d) ∙ ap (λ v. state (frame_address f y) v (here d) m)
      (first_br f.flip d y x en hy hx))
      (goes_to f.flip d f.base y x en hy hx) in
      let p1 = step_to im f a b 0 0 (oriented f.flip (bra (between y x))) Same s0 s1 (cell y ly uy) at_y q.own
      (q.goes (frame_address f y) 0 (here d)) (q.level im.routines (frame_address f y) 0 (here d)) same e1 in
      let e2 : act (oriented f.flip (rbra (between x y))) s1 ≡ s2 =
      acts_to (oriented f.flip (rbra (between x y))) (frame_address f x) (spot f.flip (not d) f.base (far (not d) x))
      (toward d y x) 0 (here d) (here (not d)) m m (rbra_acts f.flip (here d) (between x y) (frame_address f x)
      (toward d y x) m ∙ ap (λ v. state (frame_address f x) (negated v) (not (here d)) m)
      (second_br f.flip d y x en hy hx) ∙ ap (λ k. state (frame_address f x) 0 k m) (xor_not f.flip d))
      (far_is f.flip (not d) f.base x) in
      let p2 = step_to im f a b 0 0 (oriented f.flip (rbra (between x y))) Same s1 s2 (cell x lx ux) at_x
      (rbra_own f.flip (between x y)) (rbra_goes f.flip (between x y) s1)
      (rbra_level f.flip (between x y) im.routines s1) same e2 in
      subst (λ z. Path im f a b 2 0 (state z 0 (here d) m) 0 s2) (sym (near_is f.flip d f.base y)) (append p1 p2)
