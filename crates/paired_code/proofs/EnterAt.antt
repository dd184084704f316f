-- A call of the routine whose code address is in a register, in each direction.
use Rattle.std.proofs.Common.{◌≡◌, ◌≢◌, ℕ, zero, suc, ◌+◌, ◌-◌, ◌^◌, ◌<◌, ◌≤◌, Bool, true, false, List, [], ◌∷◌, length}
use Rattle.std.proofs.Common.{Some, refl, sym, ap, ◌∙◌, subst, arith}
use Rattle.std.specs.Prelude.{ℤ, pos, ◌+ℤ◌, not, slice_index, slice_set, nat_eq, if◌then◌else◌}
use Rattle.std.proofs.lemmas.Int.{ints}
use Rattle.std.proofs.lemmas.Bool.{false_from_ne_true}
use Rattle.std.proofs.lemmas.Bool.Decides.{nat_tests}
use Rattle.std.proofs.lemmas.List.{get_or-set_other}
use Rattle.code_conventions.specs.pisa_isa.declared.cell.Cell.{Cell}
use Rattle.code_conventions.specs.pisa_isa.declared.cell.Op.TheVariants.{Addi, Bra}
use Rattle.code_conventions.specs.Cells.{add, addi, bra}
use Rattle.paired_code.specs.Cells.{swapbr, rbra}
use Rattle.paired_code.specs.declared.part.Symbol.{Symbol}
use Rattle.paired_code.specs.declared.part.Symbol.TheVariants.{Fixed, Aim, Turn}
use Rattle.code_conventions.specs.rpp_words.Words.{sum_of, difference_of, negated}
use Rattle.code_conventions.specs.pisa_isa.Machine.{fetch, stride, Memory}
use Rattle.paired_code.proofs.Words.{along, toward, near, far, near_is, far_is}
use Rattle.paired_code.specs.Machine.{state, Image, memory_reg, memory_with_reg, effect_along, is_single, act}
use Rattle.paired_code.specs.Machine.{is_routine, change}
use Rattle.paired_code.specs.Machine.{Same, Enters, Leaves, same, enters, leaves}
use Rattle.paired_code.specs.Layout.{bool_xor, Frame, spot, frame_address, at, Stands, between, resolved, code_line}
use Rattle.paired_code.specs.Layout.{Routine, Tidy}
use Rattle.paired_code.specs.Layout.{place_register, enter_at_cells}
use Rattle.paired_code.specs.Pieces.{Inside, cell, open_call, in_flight, Path, Outcome, Done, Trapped, Bad, Still, Way}
use Rattle.paired_code.specs.Pieces.{Ends, finishes, traps, bad, still, Will, near_end, far_end}
use Rattle.paired_code.specs.Laws.{left_in}
use Rattle.paired_code.proofs.Laws.{will_more}
use Rattle.paired_code.proofs.Paths.{append, within_call}
use Rattle.paired_code.proofs.Steps.{oriented, Has, has_its_cell, raw_way}
use Rattle.paired_code.proofs.Ways.{and_then, ends_wider}
use Rattle.paired_code.proofs.Branch.{between_same}
use Rattle.paired_code.proofs.Call.{step_to, acts_to, swap_acts, on_line, line_to, cell_place, reg_same, with_twice}
use Rattle.paired_code.proofs.Call.{there, ends_jump, negates, neg_between, between_positive, between_small}
use Rattle.paired_code.proofs.Uturn.{turn_first, turn_last}

-- ---- a plain cell of the machine, on a line either way round

fixed_way : (im : Image) (f : Frame) (d : Bool) (a b x : ℕ) (c : Cell) (m m' : Memory) → a ≤ x → x < b
    → fetch im.code (frame_address f x) ≡ Some c → is_single c ≡ true → has_its_cell c m ≡ true
    → effect_along (bool_xor f.flip d) c m ≡ m' → Way im f d a b 1 (near d x) m (far d x) m'
fixed_way im f d a b x c m m' lo hi h p t e = subst (λ z. Way im f d a b 1 (near d x) m (far d x) z) e
    (raw_way im f d a b x c m lo hi h p t)

-- ---- what $2 holds

other_same : (m : Memory) (a w : ℕ) → a ≢ 2 → memory_reg (memory_with_reg m 2 w) a ≡ memory_reg m a
other_same m a w h = get_or-set_other m.regs 2 a w 0 h

set_is : (l : List ℕ) (i : ℕ) → slice_set l i (slice_index l i) ≡ l
set_is [] i = refl
set_is (x ∷ l) zero = refl
set_is (x ∷ l) (suc i) = ap (λ t. x ∷ t) (set_is l i)

with_own : (m : Memory) (w : ℕ) → memory_reg m 2 ≡ w → memory_with_reg m 2 w ≡ m
with_own m w e = ap (λ v. memory_with_reg m 2 v) (sym e) ∙ ap (λ l. record m { regs = l }) (set_is m.regs 2)

no_change : (d : Bool) (m : Memory) (y : ℕ) → memory_reg m 2 ≡ y → y < 2 ^ 32 → effect_along d (addi 2 0) m ≡ m
no_change false m y z l = let e : sum_of y 0 ≡ y = omega arith in ap (λ v. memory_with_reg m 2 (sum_of v 0)) z
    ∙ ap (memory_with_reg m 2) e ∙ with_own m y z
no_change true m y z l = let e : sum_of y 0 ≡ y = omega arith in ap (λ v. memory_with_reg m 2 (sum_of v 0)) z
    ∙ ap (memory_with_reg m 2) e ∙ with_own m y z

left_word : (d : Bool) (v s : ℕ) → left_in d v s < 2 ^ 32
left_word false v s = omega arith
left_word true v s = omega arith

pub left_none : (d : Bool) (v s : ℕ) → v ≡ s → s < 2 ^ 32 → left_in d v s ≡ 0
left_none false v s e l = omega arith
left_none true v s e l = omega arith

module _ (p s : ℕ) (ne : p ≢ s) (hp : p < 2 ^ 30) (hs : s < 2 ^ 30) where
  twice_p : negated (negated p) ≡ p
  twice_p = omega arith

  aimed : (d : Bool) (a : ℕ) (m : Memory) → 2 < length m.regs → memory_reg m 2 ≡ 0 → memory_reg m a ≡ s
      → effect_along d (addi 2 (negated p)) (effect_along d (add 2 a) m) ≡ memory_with_reg m 2 (toward d p s)
  aimed false a m room z v =
      let n : sum_of (sum_of 0 s) (negated p) ≡ between p s = omega arith in
      with_twice m _ _ ∙ ap (λ x. memory_with_reg m 2 (sum_of x (negated p)))
      (reg_same m _ room ∙ ap (λ x. sum_of x (memory_reg m a)) z ∙ ap (sum_of 0) v) ∙ ap (memory_with_reg m 2) n
  aimed true a m room z v =
      let n : sum_of (difference_of 0 s) p ≡ between s p = omega arith in
      with_twice m _ _ ∙ ap (λ x. memory_with_reg m 2 (sum_of x (negated (negated p))))
      (reg_same m _ room ∙ ap (λ x. difference_of x (memory_reg m a)) z ∙ ap (difference_of 0) v)
      ∙ ap (λ x. memory_with_reg m 2 (sum_of (difference_of 0 s) x)) twice_p ∙ ap (memory_with_reg m 2) n

  cleared : (d : Bool) (a : ℕ) (m : Memory) → 2 < length m.regs → a ≢ 2
      → effect_along d (add 2 a) (effect_along d (addi 2 (negated p)) (memory_with_reg m 2 (toward d s p)))
      ≡ memory_with_reg m 2 (left_in d (memory_reg m a) s)
  cleared false a m room na =
      let y = sum_of (memory_reg (memory_with_reg m 2 (between s p)) 2) (negated p) in
      let e : memory_with_reg (memory_with_reg m 2 (between s p)) 2 y
      ≡ memory_with_reg m 2 (sum_of (between s p) (negated p)) =
      with_twice m _ _ ∙ ap (λ x. memory_with_reg m 2 (sum_of x (negated p))) (reg_same m _ room) in
      let w = sum_of (between s p) (negated p) in
      let n : sum_of w (memory_reg m a) ≡ difference_of (memory_reg m a) s = omega arith in
      ap (effect_along false (add 2 a)) e ∙ with_twice m _ _
      ∙ ap (λ x. memory_with_reg m 2 (sum_of x (memory_reg (memory_with_reg m 2 w) a))) (reg_same m _ room)
      ∙ ap (λ x. memory_with_reg m 2 (sum_of w x)) (other_same m a w na) ∙ ap (memory_with_reg m 2) n
  cleared true a m room na =
      let y = sum_of (memory_reg (memory_with_reg m 2 (between p s)) 2) (negated (negated p)) in
      let e : memory_with_reg (memory_with_reg m 2 (between p s)) 2 y ≡ memory_with_reg m 2 (sum_of (between p s) p) =
      with_twice m _ _
      ∙ ap (λ x. memory_with_reg m 2 (sum_of x (negated (negated p)))) (reg_same m _ room)
      ∙ ap (λ x. memory_with_reg m 2 (sum_of (between p s) x)) twice_p in
      let w = sum_of (between p s) p in
      let n : difference_of w (memory_reg m a) ≡ difference_of s (memory_reg m a) = omega arith in
      ap (effect_along true (add 2 a)) e ∙ with_twice m _ _
      ∙ ap (λ x. memory_with_reg m 2 (difference_of x (memory_reg (memory_with_reg m 2 w) a))) (reg_same m _ room)
      ∙ ap (λ x. memory_with_reg m 2 (difference_of w x)) (other_same m a w na) ∙ ap (memory_with_reg m 2) n

-- ---- what is there

fixed_is : (im : Image) (flip : Bool) (z : ℤ) (c : Cell) → resolved im flip z (Fixed c) ≡ c
fixed_is im false z c = refl
fixed_is im true z c = refl

next_up : (g : ℤ) (x q p : ℕ) → spot false false g x ≡ pos q → spot false false g (x + 1) ≡ pos p → q + 1 ≡ p
next_up g x q p h k = omega (arith, ints)

next_down : (g : ℤ) (x q p : ℕ) → spot true false g x ≡ pos q → spot true false g (x + 1) ≡ pos p → p + 1 ≡ q
next_down g x q p h k = omega (arith, ints)

-- the place after or before, by its cell's number on the line
aim_next : (im : Image) (flip : Bool) (g : ℤ) (x q p : ℕ) → spot flip false g x ≡ pos q
    → spot flip false g (x + 1) ≡ pos p → resolved im flip (pos q) (Aim false) ≡ addi 2 (negated p)
aim_next im false g x q p h k = let e : q + 1 ≡ p = next_up g x q p h k in ap (λ n. addi 2 (negated n)) e
aim_next im true g x q p h k = let e : p + 1 ≡ q = next_down g x q p h k in let e2 : q - 1 ≡ p = omega arith in
    ap (λ n. addi 2 (negated n)) e2

aim_last : (im : Image) (flip : Bool) (g : ℤ) (x q p : ℕ) → spot flip false g x ≡ pos p
    → spot flip false g (x + 1) ≡ pos q → resolved im flip (pos q) (Aim true) ≡ addi 2 (negated p)
aim_last im false g x q p h k = let e : p + 1 ≡ q = next_up g x p q h k in let e2 : q - 1 ≡ p = omega arith in
    ap (λ n. addi 2 (negated n)) e2
aim_last im true g x q p h k = let e : q + 1 ≡ p = next_down g x p q h k in ap (λ n. addi 2 (negated n)) e

-- one of its neighbours is before it
before : (flip : Bool) (g : ℤ) (x q1 p q2 : ℕ) (P : ℕ → Type 0) → spot flip false g x ≡ pos q1
    → spot flip false g (x + 1) ≡ pos p → spot flip false g (x + 1 + 1) ≡ pos q2 → P q1 → P q2
    → (q : ℕ) × (p ≡ q + 1) × P q
before false g x q1 p q2 P h1 h h2 a b = (q1, sym (next_up g x q1 p h1 h), a)
before true g x q1 p q2 P h1 h h2 a b = (q2, sym (next_down g (x + 1) p q2 h h2), b)

not_bra : (i w : ℕ) → Some (addi 2 i) ≡ Some (bra w) → ⊥
not_bra i w e = let l : addi 2 i ≡ bra w = cc in let k : Addi ≡ Bra = ap (λ (c : Cell). c.op) l in cc

not_routine : (im : Image) (q i : ℕ) → Tidy im → fetch im.code (pos q) ≡ Some (addi 2 i)
    → is_routine im.routines (pos (q + 1)) ≡ false
not_routine im q i t h = false_from_ne_true (is_routine im.routines (pos (q + 1)))
    (λ e. let j = t.jump_before q e in not_bra i j.0 (sym h ∙ j.1))

record Core (im : Image) (f : Frame) (a i p : ℕ) : Type 0 where
  add1 : fetch im.code (frame_address f (i + 1)) ≡ Some (add 2 a)
  aim1 : fetch im.code (frame_address f (i + 1 + 1)) ≡ Some (addi 2 (negated p))
  at_p : frame_address f (i + 1 + 1 + 1) ≡ pos p
  swap : fetch im.code (pos p) ≡ Some (swapbr 2)
  aim2 : fetch im.code (frame_address f (i + 1 + 1 + 1 + 1)) ≡ Some (addi 2 (negated p))
  add2 : fetch im.code (frame_address f (i + 1 + 1 + 1 + 1 + 1)) ≡ Some (add 2 a)
  plain : is_routine im.routines (pos p) ≡ false
  low : p < length im.code

core_of : (im : Image) (f : Frame) (a i : ℕ) (b : Bool) → Tidy im → Stands im f i (enter_at_cells a b)
    → (p : ℕ) × Core im f a i p
core_of im f a i b tidy s =
    let s1 = s.1 in let s2 = s1.1 in let s3 = s2.1 in let s4 = s3.1 in let s5 = s4.1 in
    let c2 = cell_place im.code (frame_address f (i + 1 + 1)) _ s2.0 in
    let c3 = cell_place im.code (frame_address f (i + 1 + 1 + 1)) _ s3.0 in
    let c4 = cell_place im.code (frame_address f (i + 1 + 1 + 1 + 1)) _ s4.0 in
    let p = c3.0 in
    let aim1 : fetch im.code (pos c2.0) ≡ Some (addi 2 (negated p)) =
    subst (λ z. fetch im.code z ≡ Some (resolved im f.flip z (Aim false))) c2.1 s2.0
    ∙ ap Some (aim_next im f.flip f.base (i + 1 + 1) c2.0 p c2.1 c3.1) in
    let aim2 : fetch im.code (pos c4.0) ≡ Some (addi 2 (negated p)) =
    subst (λ z. fetch im.code z ≡ Some (resolved im f.flip z (Aim true))) c4.1 s4.0
    ∙ ap Some (aim_last im f.flip f.base (i + 1 + 1 + 1) c4.0 p c3.1 c4.1) in
    let P : ℕ → Type 0 = λ q. fetch im.code (pos q) ≡ Some (addi 2 (negated p)) in
    let q = before f.flip f.base (i + 1 + 1) c2.0 p c4.0 P c2.1 c3.1 c4.1 aim1 aim2 in (
      p,
      record {
        add1 = s1.0 ∙ ap Some (fixed_is im f.flip (frame_address f (i + 1)) (add 2 a));
        aim1 = subst (λ z. fetch im.code z ≡ Some (addi 2 (negated p))) (sym c2.1) aim1;
        at_p = c3.1;
        swap = subst (λ z. fetch im.code z ≡ Some (swapbr 2)) c3.1
            (s3.0 ∙ ap Some (fixed_is im f.flip (frame_address f (i + 1 + 1 + 1)) (swapbr 2)));
        aim2 = subst (λ z. fetch im.code z ≡ Some (addi 2 (negated p))) (sym c4.1) aim2;
        add2 = s5.0 ∙ ap Some (fixed_is im f.flip (frame_address f (i + 1 + 1 + 1 + 1 + 1)) (add 2 a));
        plain = subst (λ n. is_routine im.routines (pos n) ≡ false) (sym q.1) (not_routine im q.0 (negated p) tidy q.2);
        low = c3.2;
      },
    )

-- ---- to the routine and from it

module _ (im : Image) (f : Frame) (d : Bool) (a i b p top : ℕ) (core : Core im f a i p)
    (e : b ≡ i + 1 + 1 + 1 + 1 + 1 + 1 + 1) (sub : fetch im.code (pos (top + 1)) ≡ Some (swapbr 2))
    (known : is_routine im.routines (pos (top + 1)) ≡ true) (ne : p ≢ top + 1) (hp : p < 2 ^ 30) (hs : top + 1 < 2 ^ 30)
    (na : a ≢ 2) where
  abbrev dir : Bool
  dir = bool_xor f.flip d

  abbrev s : ℕ
  s = top + 1

  abbrev mid : ℕ
  mid = i + 1 + 1 + 1

  -- the gaps around the five cells
  abbrev gap_in : Bool → ℕ
  gap_in false = i + 1
  gap_in true = i + 1 + 1 + 1 + 1 + 1 + 1

  abbrev gap_out : Bool → ℕ
  gap_out false = i + 1 + 1 + 1 + 1 + 1 + 1
  gap_out true = i + 1

  en : top + 1 ≢ p
  en h = ne (sym h)

  flies : (k : Bool) (x y : ℕ) → x ≢ y → x < 2 ^ 30 → y < 2 ^ 30 → 0 < toward k x y
  flies false x y n h g = omega arith
  flies true x y n h g = omega arith

  inside_here : (br : ℕ) → Inside f i b 0 (pos p) br
  inside_here br = subst (λ z. Inside f i b 0 z br) core.at_p (cell mid (omega arith) (omega arith))

  aims : (m : Memory) → 2 < length m.regs → memory_reg m 2 ≡ 0 → memory_reg m a ≡ s
      → Way im f d i b 2 (gap_in d) m (near d mid) (memory_with_reg m 2 (toward dir p s))
  aims m room z v = go d refl
    where
      go : (k : Bool) → d ≡ k → Way im f d i b 2 (gap_in d) m (near d mid) (memory_with_reg m 2 (toward dir p s))
      go false q = subst (λ d. Way im f d i b 2 (gap_in d) m (near d mid)
          (memory_with_reg m 2 (toward (bool_xor f.flip d) p s)))
          (sym q) (and_then (fixed_way im f false i b (i + 1) (add 2 a) m _ (omega arith) (omega arith) core.add1 refl
          refl refl) (fixed_way im f false i b (i + 1 + 1) (addi 2 (negated p)) _ _ (omega arith) (omega arith)
          core.aim1 refl refl (aimed p s ne hp hs (bool_xor f.flip false) a m room z v)))
      go true q = subst (λ d. Way im f d i b 2 (gap_in d) m (near d mid)
          (memory_with_reg m 2 (toward (bool_xor f.flip d) p s)))
          (sym q) (and_then (fixed_way im f true i b (i + 1 + 1 + 1 + 1 + 1) (add 2 a) m _ (omega arith) (omega arith)
          core.add2 refl refl refl) (fixed_way im f true i b (i + 1 + 1 + 1 + 1) (addi 2 (negated p)) _ _
          (omega arith) (omega arith) core.aim2 refl refl (aimed p s ne hp hs (bool_xor f.flip true) a m room z v)))

  clears : (m : Memory) → 2 < length m.regs → Way im f d i b 2 (far d mid) (memory_with_reg m 2 (toward dir s p))
      (gap_out d)
      (memory_with_reg m 2 (left_in dir (memory_reg m a) s))
  clears m room = go d refl
    where
      go : (k : Bool) → d ≡ k → Way im f d i b 2 (far d mid) (memory_with_reg m 2 (toward dir s p)) (gap_out d)
          (memory_with_reg m 2 (left_in dir (memory_reg m a) s))
      go false q = subst (λ d. Way im f d i b 2 (far d mid) (memory_with_reg m 2 (toward (bool_xor f.flip d) s p))
          (gap_out d)
          (memory_with_reg m 2 (left_in (bool_xor f.flip d) (memory_reg m a) s))) (sym q)
          (and_then (fixed_way im f false i b (i + 1 + 1 + 1 + 1) (addi 2 (negated p)) _ _ (omega arith) (omega arith)
          core.aim2 refl refl refl) (fixed_way im f false i b (i + 1 + 1 + 1 + 1 + 1) (add 2 a) _ _ (omega arith)
          (omega arith) core.add2 refl refl (cleared p s ne hp hs (bool_xor f.flip false) a m room na)))
      go true q = subst (λ d. Way im f d i b 2 (far d mid) (memory_with_reg m 2 (toward (bool_xor f.flip d) s p))
          (gap_out d)
          (memory_with_reg m 2 (left_in (bool_xor f.flip d) (memory_reg m a) s))) (sym q)
          (and_then (fixed_way im f true i b (i + 1 + 1) (addi 2 (negated p)) _ _ (omega arith) (omega arith) core.aim1
          refl refl refl) (fixed_way im f true i b (i + 1) (add 2 a) _ _ (omega arith) (omega arith) core.add1 refl
          refl (cleared p s ne hp hs (bool_xor f.flip true) a m room na)))

  swaps_in : (m : Memory) → 2 < length m.regs → memory_reg m 2 ≡ 0 → memory_reg m a ≡ s
      → Path im f i b 4 0 (at f d (gap_in d) m) 1 (at code_line dir (far dir s) (memory_with_reg m 2 (toward dir p s)))
  swaps_in m room z v =
      let n = memory_with_reg m 2 (toward dir p s) in
      let s0 = state (pos p) 0 dir n in
      let s1 = state (pos s) (toward dir p s) dir (memory_with_reg m 2 0) in
      let s2 = at code_line dir (far dir s) n in
      let e1 : act (swapbr 2) s0 ≡ s1 = acts_to (swapbr 2) (pos p) (pos s) 0 (toward dir p s) dir dir n
      (memory_with_reg m 2 0)
      (swap_acts dir 0 (pos p) n ∙ ap (λ v. state (pos p) v dir (memory_with_reg n 2 0)) (reg_same m _ room)
      ∙ ap (λ (v : Memory). state (pos p) (toward dir p s) dir v) (with_twice m _ 0)) (line_to dir p s ne hp hs)
      in
      let g1 : change im.routines (swapbr 2) s0 ≡ Same = ap
      (λ t. if t then (if nat_eq (memory_reg n 2) 0 then Enters else Leaves) else Same) core.plain in
      let p1 = step_to im f i b 0 0 (swapbr 2) Same s0 s1 (inside_here 0) core.swap refl refl g1 same e1 in
      let g2 : change im.routines (swapbr 2) s1 ≡ Enters =
      ap (λ t. if t then (if nat_eq (memory_reg (memory_with_reg m 2 0) 2) 0 then Enters else Leaves) else Same) known
      ∙ ap (λ n. if nat_eq n 0 then Enters else Leaves) (reg_same m 0 room) in
      let fr : pos s +ℤ along dir (stride 0) ≡ spot false dir (pos 0) (far dir s) =
      subst (λ z. z +ℤ along dir (pos 1) ≡ spot false dir (pos 0) (far dir s)) (on_line s)
      (far_is false dir (pos 0) s) in
      let o = memory_with_reg m 2 0 in
      let e2 : act (swapbr 2) s1 ≡ s2 = acts_to (swapbr 2) (pos s) (spot false dir (pos 0) (far dir s)) (toward dir p s)
      0 dir dir o n (swap_acts dir (toward dir p s) (pos s) o
      ∙ ap (λ v. state (pos s) v dir (memory_with_reg o 2 (toward dir p s))) (reg_same m 0 room)
      ∙ ap (λ (v : Memory). state (pos s) 0 dir v) (with_twice m 0 (toward dir p s))) fr in
      let p2 = step_to im f i b 0 1 (swapbr 2) Enters s1 s2 (in_flight (flies dir p s ne hp hs)) sub refl refl g2 enters
      e2 in
      let start : spot f.flip d f.base (near d mid) ≡ pos p = near_is f.flip d f.base mid ∙ core.at_p in
      append (aims m room z v).path (subst (λ z. Path im f i b 2 0 (state z 0 dir n) 1 s2) (sym start) (append p1 p2))

  swaps_out : (m : Memory) → 2 < length m.regs → memory_reg m 2 ≡ toward dir s p
      → Path im f i b 4 1 (at code_line dir (near dir s) m) 0
      (at f d (gap_out d) (memory_with_reg m 2 (left_in dir (memory_reg m a) s)))
  swaps_out m room z =
      let n = memory_with_reg m 2 0 in
      let o = memory_with_reg m 2 (toward dir s p) in
      let s0 = state (pos s) 0 dir m in
      let s1 = state (pos p) (toward dir s p) dir n in
      let s2 = at f d (far d mid) o in
      let fly = flies dir s p en hs hp in
      let nz : nat_eq (toward dir s p) 0 ≡ false = grind (arith, nat_tests) in
      let g1 : change im.routines (swapbr 2) s0 ≡ Leaves =
      ap (λ t. if t then (if nat_eq (memory_reg m 2) 0 then Enters else Leaves) else Same) known
      ∙ ap (λ n. if nat_eq n 0 then Enters else Leaves) z ∙ ap (λ t. if t then Enters else Leaves) nz in
      let e1 : act (swapbr 2) s0 ≡ s1 = acts_to (swapbr 2) (pos s) (pos p) 0 (toward dir s p) dir dir m n
      (swap_acts dir 0 (pos s) m ∙ ap (λ v. state (pos s) v dir n) z) (line_to dir s p en hs hp) in
      let p1 = step_to im f i b 1 0 (swapbr 2) Leaves s0 s1 open_call sub refl refl g1 leaves e1 in
      let g2 : change im.routines (swapbr 2) s1 ≡ Same = ap
      (λ t. if t then (if nat_eq (memory_reg n 2) 0 then Enters else Leaves) else Same) core.plain in
      let fr : pos p +ℤ along dir (stride 0) ≡ spot f.flip d f.base (far d mid) =
      subst (λ z. z +ℤ along dir (pos 1) ≡ spot f.flip d f.base (far d mid)) core.at_p (far_is f.flip d f.base mid)
      in
      let e2 : act (swapbr 2) s1 ≡ s2 = acts_to (swapbr 2) (pos p) (spot f.flip d f.base (far d mid)) (toward dir s p) 0
      dir dir n o (swap_acts dir (toward dir s p) (pos p) n
      ∙ ap (λ v. state (pos p) v dir (memory_with_reg n 2 (toward dir s p))) (reg_same m 0 room)
      ∙ ap (λ (v : Memory). state (pos p) 0 dir v) (with_twice m 0 (toward dir s p))) fr in
      let p2 = step_to im f i b 0 0 (swapbr 2) Same s1 s2 (inside_here _) core.swap refl refl g2 same e2 in
      let start : spot false dir (pos 0) (near dir s) ≡ pos s = near_is false dir (pos 0) s ∙ on_line s in
      append (subst (λ z. Path im f i b 2 1 (state z 0 dir m) 0 s2) (sym start) (append p1 p2)) (clears m room).path

-- ---- the routine between, given ways in and out

-- what is to hold after the body, which leaves $2 as it found it
abbrev pub Returns_any : ℕ → ℕ → ℕ → Bool → (Outcome → Type 0) → Outcome → Type 0
Returns_any a s w d Q (Done m k) = (memory_reg m 2 ≡ w) × ((e : ℕ) → 6 ≤ e → e ≤ 15
    → Q (Done (memory_with_reg m 2 (left_in d (memory_reg m a) s)) (k + e)))
Returns_any a s w d Q (Trapped v k) = (e : ℕ) → 6 ≤ e → e ≤ 15 → Q (Trapped v (k + e))
Returns_any a s w d Q (Bad v k) = (e : ℕ) → 6 ≤ e → e ≤ 15 → Q (Bad v (k + e))
Returns_any a s w d Q (Still k) = (e : ℕ) → 6 ≤ e → e ≤ 15 → Q (Still (k + e))

-- and the register too
abbrev pub Returns_at : ℕ → ℕ → ℕ → (Outcome → Type 0) → Outcome → Type 0
Returns_at a s w Q (Done m k) = (memory_reg m 2 ≡ w) × (memory_reg m a ≡ s)
    × ((e : ℕ) → 6 ≤ e → e ≤ 15 → Q (Done (memory_with_reg m 2 0) (k + e)))
Returns_at a s w Q (Trapped v k) = (e : ℕ) → 6 ≤ e → e ≤ 15 → Q (Trapped v (k + e))
Returns_at a s w Q (Bad v k) = (e : ℕ) → 6 ≤ e → e ≤ 15 → Q (Bad v (k + e))
Returns_at a s w Q (Still k) = (e : ℕ) → 6 ≤ e → e ≤ 15 → Q (Still (k + e))

returns_any : (a s w : ℕ) (d : Bool) (Q : Outcome → Type 0) (o : Outcome) → s < 2 ^ 32 → Returns_at a s w Q o
    → Returns_any a s w d Q o
returns_any a s w d Q (Done m k) l h = (
  h.0,
  λ e lo hi. subst (λ v. Q (Done (memory_with_reg m 2 v) (k + e)))
      (sym (left_none d (memory_reg m a) s h.1 l)) (h.2 e lo hi),
)
returns_any a s w d Q (Trapped v k) l h = h
returns_any a s w d Q (Bad v k) l h = h
returns_any a s w d Q (Still k) l h = h

module _ (im : Image) (r top : ℕ) (body : List Symbol) (t : Routine im r top body) (f : Frame) (d : Bool)
    (lo hi i j a p x y : ℕ) (ne : p ≢ top + 1) (hp : p < 2 ^ 30) (na : a ≢ 2) (m : Memory) (room : 2 < length m.regs)
    (lx : 5 ≤ x) (ux : x ≤ 6) (ly : 5 ≤ y) (uy : y ≤ 6) (Q : Outcome → Type 0) where
  abbrev w : ℕ
  w = between (top + 1) p

  abbrev b0 : ℕ
  b0 = top + 1 + 1 + 1

  abbrev b1 : ℕ
  b1 = top + 1 + 1 + 1 + length body

  low_s : top + 1 < 2 ^ 30
  low_s = let l = t.small in omega arith

  sne : top + 1 ≢ p
  sne e = ne (sym e)

  through : (way : Bool) → Path im f lo hi x 0 (at f d i m) 1
      (at code_line way (far way (top + 1)) (memory_with_reg m 2 (toward way p (top + 1))))
      → ((m1 : Memory) → 2 < length m1.regs → memory_reg m1 2 ≡ toward way (top + 1) p
      → Path im f lo hi y 1 (at code_line way (near way (top + 1)) m1) 0
      (at f d j (memory_with_reg m1 2 (left_in way (memory_reg m1 a) (top + 1)))))
      → Will im body way (memory_with_reg m 2 w) (Returns_any a (top + 1) w way Q)
      → (o : Outcome) × Ends im f d lo hi i m j o × Q o
  through false into out h = let r = h.will code_line b0 t.small t.body_there in
      go r.0 (ends_wider top (b1 + 1) (omega arith) (omega arith) r.1) r.2
    where
      first : Way im code_line false top (b1 + 1) 1 (top + 1 + 1) (memory_with_reg m 2 (between p (top + 1))) b0
          (memory_with_reg m 2 w)
      first =
          let e : memory_with_reg (memory_with_reg m 2 (between p (top + 1))) 2
          (negated (memory_reg (memory_with_reg m 2 (between p (top + 1))) 2))
          ≡ memory_with_reg m 2 w = with_twice m _ _ ∙ ap (λ v. memory_with_reg m 2 (negated v)) (reg_same m _ room)
          ∙ ap (memory_with_reg m 2) (neg_between p (top + 1) ne hp low_s) in
          subst (λ y. Way im code_line false top (b1 + 1) 1 (top + 1 + 1) (memory_with_reg m 2 (between p (top + 1))) b0
          y) e
          (negates im r top body t false (memory_with_reg m 2 (between p (top + 1))))

      go : (o : Outcome) → Ends im code_line false top (b1 + 1) b0 (memory_with_reg m 2 w) b1 o
          → Returns_any a (top + 1) w false Q o → (o : Outcome) × Ends im f d lo hi i m j o × Q o
      go (Done m1 k) (finishes v) q =
          let wide : 2 < length m1.regs = there m1.regs 2 w q.0 (between_positive (top + 1) p sne low_s hp) in
          let inner = and_then first (and_then v (ends_jump im r top body t false m1)) in
          let all = append into (append (within_call f lo hi inner.path) (out m1 wide q.0)) in
          let c : x + (1 + (k + 2) + y) ≡ k + (x + 3 + y) = omega arith in (
            Done (memory_with_reg m1 2 (left_in false (memory_reg m1 a) (top + 1))) (k + (x + 3 + y)),
            finishes (record {
              path = subst (λ n. Path im f lo hi n 0 (at f d i m) 0
                  (at f d j (memory_with_reg m1 2 (left_in false (memory_reg m1 a) (top + 1))))) c all;
            }),
            q.1 (x + 3 + y) (omega arith) (omega arith),
          )
      go (Trapped v k) (traps h) q =
          let c : x + (1 + k) ≡ k + (x + 1) = omega arith in (
            Trapped v (k + (x + 1)),
            traps (record {
              last = h.last;
              depth = suc h.depth;
              path = subst (λ n. Path im f lo hi n 0 (at f d i m) (suc h.depth) h.last) c
                  (append into (within_call f lo hi (append first.path h.path)));
              stops = h.stops;
              inside = open_call;
            }),
            q (x + 1) (omega arith) (omega arith),
          )
      go (Bad v k) (bad h) q =
          let c : x + (1 + k) ≡ k + (x + 1) = omega arith in (
            Bad v (k + (x + 1)),
            bad (record {
              last = h.last;
              depth = suc h.depth;
              path = subst (λ n. Path im f lo hi n 0 (at f d i m) (suc h.depth) h.last) c
                  (append into (within_call f lo hi (append first.path h.path)));
              stops = h.stops;
              inside = open_call;
            }),
            q (x + 1) (omega arith) (omega arith),
          )
      go (Still k) (still h) q =
          let c : x + (1 + k) ≡ k + (x + 1) = omega arith in (
            Still (k + (x + 1)),
            still (record {
              last = h.last;
              depth = suc h.depth;
              path = subst (λ n. Path im f lo hi n 0 (at f d i m) (suc h.depth) h.last) c
                  (append into (within_call f lo hi (append first.path h.path)));
            }),
            q (x + 1) (omega arith) (omega arith),
          )
  through true into out h = let r = h.will code_line b0 t.small t.body_there in
      go r.0 (ends_wider top (b1 + 1) (omega arith) (omega arith) r.1) r.2
    where
      first : Way im code_line true top (b1 + 1) 2 (top + 1) (memory_with_reg m 2 w) b1 (memory_with_reg m 2 w)
      first = ends_jump im r top body t true (memory_with_reg m 2 w)

      go : (o : Outcome) → Ends im code_line true top (b1 + 1) b1 (memory_with_reg m 2 w) b0 o
          → Returns_any a (top + 1) w true Q o → (o : Outcome) × Ends im f d lo hi i m j o × Q o
      go (Done m1 k) (finishes v) q =
          let wide : 2 < length m1.regs = there m1.regs 2 w q.0 (between_positive (top + 1) p sne low_s hp) in
          let m2 = memory_with_reg m1 2 (negated (memory_reg m1 2)) in
          let same2 : memory_reg m2 2 ≡ negated (memory_reg m1 2) = reg_same m1 _ wide in
          let turns : memory_reg m2 2 ≡ between p (top + 1) = same2 ∙ ap negated q.0
          ∙ neg_between (top + 1) p sne low_s hp in
          let keeps : memory_reg m2 a ≡ memory_reg m1 a = other_same m1 a _ na in
          let wide2 : 2 < length m2.regs = there m2.regs 2 (between p (top + 1)) turns
          (between_positive p (top + 1) ne hp low_s) in
          let inner = and_then first (and_then v (negates im r top body t true m1)) in
          let end = subst (λ z. Path im f lo hi y 1 (at code_line true (near true (top + 1)) m2) 0 (at f d j z))
          (with_twice m1 _ _ ∙ ap (λ v. memory_with_reg m1 2 (left_in true v (top + 1))) keeps) (out m2 wide2 turns) in
          let all = append into (append (within_call f lo hi inner.path) end) in
          let c : x + (2 + (k + 1) + y) ≡ k + (x + 3 + y) = omega arith in (
            Done (memory_with_reg m1 2 (left_in true (memory_reg m1 a) (top + 1))) (k + (x + 3 + y)),
            finishes (record {
              path = subst (λ n. Path im f lo hi n 0 (at f d i m) 0
                  (at f d j (memory_with_reg m1 2 (left_in true (memory_reg m1 a) (top + 1))))) c all;
            }),
            q.1 (x + 3 + y) (omega arith) (omega arith),
          )
      go (Trapped v k) (traps h) q =
          let c : x + (2 + k) ≡ k + (x + 2) = omega arith in (
            Trapped v (k + (x + 2)),
            traps (record {
              last = h.last;
              depth = suc h.depth;
              path = subst (λ n. Path im f lo hi n 0 (at f d i m) (suc h.depth) h.last) c
                  (append into (within_call f lo hi (append first.path h.path)));
              stops = h.stops;
              inside = open_call;
            }),
            q (x + 2) (omega arith) (omega arith),
          )
      go (Bad v k) (bad h) q =
          let c : x + (2 + k) ≡ k + (x + 2) = omega arith in (
            Bad v (k + (x + 2)),
            bad (record {
              last = h.last;
              depth = suc h.depth;
              path = subst (λ n. Path im f lo hi n 0 (at f d i m) (suc h.depth) h.last) c
                  (append into (within_call f lo hi (append first.path h.path)));
              stops = h.stops;
              inside = open_call;
            }),
            q (x + 2) (omega arith) (omega arith),
          )
      go (Still k) (still h) q =
          let c : x + (2 + k) ≡ k + (x + 2) = omega arith in (
            Still (k + (x + 2)),
            still (record {
              last = h.last;
              depth = suc h.depth;
              path = subst (λ n. Path im f lo hi n 0 (at f d i m) (suc h.depth) h.last) c
                  (append into (within_call f lo hi (append first.path h.path)));
            }),
            q (x + 2) (omega arith) (omega arith),
          )

-- ---- the two ends: nothing, or a turn

no_true : true ≡ false → ⊥
no_true e = cc

no_false : false ≡ true → ⊥
no_false e = cc

idle : (im : Image) (flip b k c : Bool) (z : ℤ) → bool_xor flip b ≡ false → resolved im flip z (Turn k c b) ≡ addi 2 0
idle im false false k c z e = refl
idle im false true k c z e = absurd (no_true e)
idle im true false k c z e = absurd (no_true e)
idle im true true k c z e = refl

turns_first : (im : Image) (flip b : Bool) (z : ℤ) → bool_xor flip b ≡ true
    → resolved im flip z (Turn true false b) ≡ oriented flip (rbra (between 0 6))
turns_first im false false z e = absurd (no_false e)
turns_first im false true z e = refl
turns_first im true false z e = refl
turns_first im true true z e = absurd (no_false e)

turns_last : (im : Image) (flip b : Bool) (z : ℤ) → bool_xor flip b ≡ true
    → resolved im flip z (Turn false true b) ≡ oriented flip (bra (between 6 0))
turns_last im false false z e = absurd (no_false e)
turns_last im false true z e = refl
turns_last im true false z e = refl
turns_last im true true z e = absurd (no_false e)

way_kept : (flip b d : Bool) → bool_xor flip b ≡ false → bool_xor flip d ≡ bool_xor b d
way_kept false false d e = refl
way_kept false true d e = absurd (no_true e)
way_kept true false d e = absurd (no_true e)
way_kept true true d e = refl

way_turned : (flip b d : Bool) → bool_xor flip b ≡ true → bool_xor flip (not d) ≡ bool_xor b d
way_turned false false d e = absurd (no_false e)
way_turned false true d e = refl
way_turned true false false e = refl
way_turned true false true e = refl
way_turned true true d e = absurd (no_false e)

module _ (im : Image) (r top : ℕ) (body : List Symbol) (t : Routine im r top body) (tidy : Tidy im) (a : ℕ) (na : a ≢ 2)
    (m : Memory) (room : 2 < length m.regs) (z : memory_reg m 2 ≡ 0) (v : memory_reg m a ≡ top + 1)
    (Q : Outcome → Type 0) (f : Frame)
    (i : ℕ) (b : Bool) (l : i + 7 < 2 ^ 30) (st : Stands im f i (enter_at_cells a b)) where
  abbrev end : ℕ
  end = i + 1 + 1 + 1 + 1 + 1 + 1 + 1

  abbrev last : ℕ
  last = i + 1 + 1 + 1 + 1 + 1 + 1

  p : ℕ
  p = (core_of im f a i b tidy st).0

  core : Core im f a i p
  unfolding p
  core = (core_of im f a i b tidy st).1

  hp : p < 2 ^ 30
  hp = let h = core.low in let k = tidy.short in omega arith

  hs : top + 1 < 2 ^ 30
  hs = let k = t.small in omega arith

  sub : fetch im.code (pos (top + 1)) ≡ Some (swapbr 2)
  sub = subst (λ z. fetch im.code z ≡ Some (swapbr 2)) (on_line (top + 1)) t.sub_cell

  -- the routine's own SWAPBR is in the table, and the call's is not
  ne : p ≢ top + 1
  ne e = no_true (sym t.known ∙ subst (λ n. is_routine im.routines (pos n) ≡ false) e core.plain)

  -- in and out without a turn
  straight : (d : Bool) → bool_xor f.flip b ≡ false → Will im body (bool_xor f.flip d)
      (memory_with_reg m 2 (between (top + 1) p))
      (Returns_any a (top + 1) (between (top + 1) p) (bool_xor f.flip d) Q)
      → (o : Outcome) × Ends im f d i end (near_end d i end) m (far_end d i end) o × Q o
  straight false k h =
      let first : Way im f false i end 1 i m (i + 1) m = fixed_way im f false i end i (addi 2 0) m m (omega arith)
      (omega arith) (st.0 ∙ ap Some (idle im f.flip b true false (frame_address f i) k)) refl refl
      (no_change (bool_xor f.flip false) m 0 z (omega arith)) in
      through im r top body t f false i end i end a p 5 5 ne hp na m room (omega arith) (omega arith) (omega arith)
      (omega arith) Q (bool_xor f.flip false) (append first.path
      (swaps_in im f false a i end p top core refl sub t.known ne hp hs na m room z v)) (λ m1 wide e1.
      let n = memory_with_reg m1 2 (left_in (bool_xor f.flip false) (memory_reg m1 a) (top + 1)) in
      let closing : Way im f false i end 1 last n end n = fixed_way im f false i end last (addi 2 0) n n (omega arith)
      (omega arith) (st.1.1.1.1.1.1.0 ∙ ap Some (idle im f.flip b false true (frame_address f last) k)) refl refl
      (no_change (bool_xor f.flip false) n _ (reg_same m1 _ wide)
      (left_word (bool_xor f.flip false) (memory_reg m1 a) (top + 1))) in
      append (swaps_out im f false a i end p top core refl sub t.known ne hp hs na m1 wide e1) closing.path) h
  straight true k h =
      let first : Way im f true i end 1 end m last m = fixed_way im f true i end last (addi 2 0) m m (omega arith)
      (omega arith) (st.1.1.1.1.1.1.0 ∙ ap Some (idle im f.flip b false true (frame_address f last) k)) refl refl
      (no_change (bool_xor f.flip true) m 0 z (omega arith)) in
      through im r top body t f true i end end i a p 5 5 ne hp na m room (omega arith) (omega arith) (omega arith)
      (omega arith) Q (bool_xor f.flip true) (append first.path
      (swaps_in im f true a i end p top core refl sub t.known ne hp hs na m room z v)) (λ m1 wide e1.
      let n = memory_with_reg m1 2 (left_in (bool_xor f.flip true) (memory_reg m1 a) (top + 1)) in
      let closing : Way im f true i end 1 (i + 1) n i n = fixed_way im f true i end i (addi 2 0) n n (omega arith)
      (omega arith) (st.0 ∙ ap Some (idle im f.flip b true false (frame_address f i) k)) refl refl
      (no_change (bool_xor f.flip true) n _ (reg_same m1 _ wide)
      (left_word (bool_xor f.flip true) (memory_reg m1 a) (top + 1))) in
      append (swaps_out im f true a i end p top core refl sub t.known ne hp hs na m1 wide e1) closing.path) h

  first_turn : bool_xor f.flip b ≡ true → Has im f i (rbra (between i last))
  first_turn k = let e : between 0 6 ≡ between i last = between_same 0 6 i last (omega arith) (omega arith)
      (omega arith) (omega arith) (omega arith) in
      subst (λ n. Has im f i (rbra n)) e (st.0 ∙ ap Some (turns_first im f.flip b (frame_address f i) k))

  last_turn : bool_xor f.flip b ≡ true → Has im f last (bra (between last i))
  last_turn k = let e : between 6 0 ≡ between last i = between_same 6 0 last i (omega arith) (omega arith) (omega arith)
      (omega arith) (omega arith) in
      subst (λ n. Has im f last (bra n)) e (st.1.1.1.1.1.1.0
      ∙ ap Some (turns_last im f.flip b (frame_address f last) k))

  apart : i ≢ last
  apart e = omega arith

  turned : (d : Bool) → bool_xor f.flip b ≡ true → Will im body (bool_xor f.flip (not d))
      (memory_with_reg m 2 (between (top + 1) p))
      (Returns_any a (top + 1) (between (top + 1) p) (bool_xor f.flip (not d)) Q)
      → (o : Outcome) × Ends im f d i end (near_end d i end) m (far_end d i end) o × Q o
  turned false k h =
      through im r top body t f false i end i end a p 6 6 ne hp na m room (omega arith) (omega arith) (omega arith)
      (omega arith) Q (bool_xor f.flip true)
      (append (turn_first im f i end i last apart (omega arith) (omega arith) (omega arith) (omega arith) (omega arith)
      (omega arith) (first_turn k) (last_turn k) m false)
      (swaps_in im f true a i end p top core refl sub t.known ne hp hs na m room z v))
      (λ m1 wide e1. append (swaps_out im f true a i end p top core refl sub t.known ne hp hs na m1 wide e1)
      (turn_first im f i end i last apart (omega arith) (omega arith) (omega arith) (omega arith) (omega arith)
      (omega arith) (first_turn k) (last_turn k) (memory_with_reg m1 2
      (left_in (bool_xor f.flip true) (memory_reg m1 a) (top + 1))) true)) h
  turned true k h =
      through im r top body t f true i end end i a p 6 6 ne hp na m room (omega arith) (omega arith) (omega arith)
      (omega arith) Q (bool_xor f.flip false)
      (append (turn_last im f i end i last apart (omega arith) (omega arith) (omega arith) (omega arith) (omega arith)
      (omega arith) (first_turn k) (last_turn k) m true)
      (swaps_in im f false a i end p top core refl sub t.known ne hp hs na m room z v))
      (λ m1 wide e1. append (swaps_out im f false a i end p top core refl sub t.known ne hp hs na m1 wide e1)
      (turn_last im f i end i last apart (omega arith) (omega arith) (omega arith) (omega arith) (omega arith)
      (omega arith) (first_turn k) (last_turn k) (memory_with_reg m1 2
      (left_in (bool_xor f.flip false) (memory_reg m1 a) (top + 1))) false)) h

  either : (d : Bool) → ((w : ℕ) → 0 < w → w < 2 ^ 32 → Will im body (bool_xor b d) (memory_with_reg m 2 w)
      (Returns_any a (top + 1) w (bool_xor b d) Q)) → (o : Outcome)
      × Ends im f d i end (near_end d i end) m (far_end d i end) o × Q o
  either d h = go (bool_xor f.flip b) refl
    where
      given : Will im body (bool_xor b d) (memory_with_reg m 2 (between (top + 1) p))
          (Returns_any a (top + 1) (between (top + 1) p) (bool_xor b d) Q)
      given = h (between (top + 1) p) (between_positive (top + 1) p (λ e. ne (sym e)) hs hp) (between_small (top + 1) p)

      go : (k : Bool) → bool_xor f.flip b ≡ k → (o : Outcome)
          × Ends im f d i end (near_end d i end) m (far_end d i end) o
          × Q o
      go false k = straight d k (subst (λ y. Will im body y (memory_with_reg m 2 (between (top + 1) p))
          (Returns_any a (top + 1) (between (top + 1) p) y Q)) (sym (way_kept f.flip b d k)) given)
      go true k = turned d k (subst (λ y. Will im body y (memory_with_reg m 2 (between (top + 1) p))
          (Returns_any a (top + 1) (between (top + 1) p) y Q)) (sym (way_turned f.flip b d k)) given)

-- ---- the law

pub will_enter_at_any : (im : Image) (r top : ℕ) (body : List Symbol) (a : ℕ) (b d : Bool) (m : Memory)
    (Q : Outcome → Type 0) → Tidy im → Routine im r top body → a ≢ 2 → 2 < length m.regs → memory_reg m 2 ≡ 0
    → memory_reg m a ≡ top + 1 → ((w : ℕ) → 0 < w → w < 2 ^ 32 → Will im body (bool_xor b d) (memory_with_reg m 2 w)
    (Returns_any a (top + 1) w (bool_xor b d) Q)) → Will im (enter_at_cells a b) d m Q
will_enter_at_any im r top body a b d m Q tidy t na room z v h = record {
  will = λ f i l st.
      let e : i + 1 + 1 + 1 + 1 + 1 + 1 + 1 ≡ i + length (enter_at_cells a b) = omega arith in
      let l7 : i + 7 < 2 ^ 30 = omega arith in
      subst (λ n. (o : Outcome) × Ends im f d i n (near_end d i n) m (far_end d i n) o × Q o) e
      (either im r top body t tidy a na m room z v Q f i b l7 st d h);
}

pub will_enter_at : (im : Image) (r top : ℕ) (body : List Symbol) (a : ℕ) (b d : Bool) (m : Memory)
    (Q : Outcome → Type 0) → Tidy im → Routine im r top body → a ≢ 2 → 2 < length m.regs → memory_reg m 2 ≡ 0
    → memory_reg m a ≡ top + 1 → ((w : ℕ) → 0 < w → w < 2 ^ 32 → Will im body (bool_xor b d) (memory_with_reg m 2 w)
    (Returns_at a (top + 1) w Q)) → Will im (enter_at_cells a b) d m Q
will_enter_at im r top body a b d m Q tidy t na room z v h =
    let s = t.small in
    will_enter_at_any im r top body a b d m Q tidy t na room z v
    (λ w pw is. will_more im body (bool_xor b d) (memory_with_reg m 2 w) _ _
    (λ o k. returns_any a (top + 1) w (bool_xor b d) Q o (omega arith) k) (h w pw is))

-- ---- register 2

pub not_two : (m : Memory) (a top : ℕ) → memory_reg m 2 ≡ 0 → memory_reg m a ≡ top + 1 → a ≢ 2
not_two m a top z v e = let h : top + 1 ≡ 0 = sym v ∙ ap (memory_reg m) e ∙ z in omega arith

pub other_register : (a : ℕ) → a ≢ 2 → a ≡ place_register a
other_register a h = let e : nat_eq a 2 ≡ false = grind (arith, nat_tests) in sym (ap (λ t. if t then 3 else a) e)

-- by the register that is asked for
pub will_enter_place : (im : Image) (r top : ℕ) (body : List Symbol) (a : ℕ) (b d : Bool) (m : Memory)
    (Q : Outcome → Type 0) → Tidy im → Routine im r top body → 2 < length m.regs → memory_reg m 2 ≡ 0
    → memory_reg m a ≡ top + 1
    → ((w : ℕ) → 0 < w → w < 2 ^ 32 → Will im body (bool_xor b d) (memory_with_reg m 2 w)
    (Returns_any a (top + 1) w (bool_xor b d) Q))
    → Will im (enter_at_cells (place_register a) b) d m Q
will_enter_place im r top body a b d m Q tidy t room z v h =
    let na : a ≢ 2 = not_two m a top z v in
    subst (λ x. Will im (enter_at_cells x b) d m Q) (other_register a na)
    (will_enter_at_any im r top body a b d m Q tidy t na room z v h)
