-- A call of a routine, each way.
use Rattle.std.proofs.Common.{◌≡◌, ◌≢◌, ℕ, zero, suc, ◌+◌, ◌^◌, ◌<◌, ◌≤◌, Bool, true, false, List, [], ◌∷◌, length}
use Rattle.std.proofs.Common.{Option, Some, None, refl, sym, ap, ◌∙◌, subst, ⊎_elim, arith}
use Rattle.std.specs.Prelude.{ℤ, pos, negsuc, ◌+ℤ◌, slice_get, slice_index, slice_set, nat_eq, if◌then◌else◌}
use Rattle.std.proofs.lemmas.Int.{ints}
use Rattle.std.proofs.lemmas.Bool.{cases_lt}
use Rattle.std.proofs.lemmas.Bool.Decides.{nat_tests}
use Rattle.std.proofs.lemmas.Option.{slice_get_past}
use Rattle.std.proofs.lemmas.List.{get_or-set_same}
use Rattle.code_conventions.specs.pisa_isa.declared.cell.Cell.{Cell}
use Rattle.code_conventions.specs.pisa_isa.declared.cell.Op.TheVariants.{Bra, Rbra, Swapbr}
use Rattle.code_conventions.specs.Cells.{neg, bra}
use Rattle.paired_code.specs.Cells.{swapbr, rbra}
use Rattle.paired_code.specs.declared.part.Symbol.{Symbol}
use Rattle.paired_code.specs.declared.part.Symbol.TheVariants.{Enter}
use Rattle.code_conventions.specs.rpp_words.Words.{sum_of, negated}
use Rattle.code_conventions.specs.pisa_isa.Machine.{State, effect, stop_at, fetch, stride, moved, Memory}
use Rattle.paired_code.proofs.Words.{along, turned, toward, first_br, second_br, goes_to, near, far, near_is, far_is}
use Rattle.paired_code.specs.Machine.{state, Image, memory_reg, memory_with_reg, act, is_routine, is_end, change}
use Rattle.paired_code.specs.Machine.{Change, Same}
use Rattle.paired_code.specs.Machine.{Enters, Leaves, Level, same, enters, leaves}
use Rattle.paired_code.specs.Layout.{bool_xor, Frame, spot, frame_address, at, between, resolved, code_line, Routine}
use Rattle.paired_code.specs.Pieces.{Inside, cell, open_call, in_flight, Path, stay, step, Outcome, Done, Trapped, Bad}
use Rattle.paired_code.specs.Pieces.{Still, Way, Ends, finishes, traps, bad, still, Will, outcome_after, IsOutcomeOver}
use Rattle.paired_code.specs.Pieces.{near_end}
use Rattle.paired_code.specs.Pieces.{far_end}
use Rattle.paired_code.specs.Laws.{lead}
use Rattle.paired_code.proofs.Paths.{append, within_call}
use Rattle.paired_code.proofs.Steps.{moved_is, calm_way, calm_single}
use Rattle.paired_code.proofs.Ways.{and_then, from_to, jump, ends_wider, ends_after}

-- ---- one step, with any change of the open routines

pub step_to : (im : Image) (f : Frame) (a b e e1 : ℕ) (c : Cell) (g : Change) (s s' : State) → Inside f a b e s.pc s.br
    → fetch im.code s.pc ≡ Some c → is_end c ≡ false → stop_at (Some c) s ≡ None → change im.routines c s ≡ g
    → Level g e e1 → act c s ≡ s' → Path im f a b 1 e s e1 s'
step_to im f a b e e1 c g s s' i h v n k l q = subst (λ t. Path im f a b 1 e s e1 t) q
    (step c i h n v (subst (λ g. Level g e e1) (sym k) l) stay)

pub acts_to : (c : Cell) (pc pc' : ℤ) (br br' : ℕ) (k k' : Bool) (m m' : Memory)
    → effect c (state pc br k m) ≡ state pc br' k' m' → pc +ℤ along k' (stride br') ≡ pc'
    → act c (state pc br k m) ≡ state pc' br' k' m'
acts_to c pc pc' br br' k k' m m' e g = ap moved e ∙ moved_is pc pc' br' k' m' g

-- ---- places

pub on_line : (n : ℕ) → frame_address code_line n ≡ pos n
on_line n = omega (arith, ints)

pub line_to : (d : Bool) (x y : ℕ) → x ≢ y → x < 2 ^ 30 → y < 2 ^ 30 → pos x +ℤ along d (stride (toward d x y)) ≡ pos y
line_to d x y n h k = subst (λ z. z +ℤ along d (stride (toward d x y)) ≡ pos y) (on_line x)
    (goes_to false d (pos 0) x y n h k ∙ on_line y)

pub cell_place : (code : List Cell) (z : ℤ) (c : Cell) → fetch code z ≡ Some c
    → (p : ℕ) × (z ≡ pos p) × (p < length code)
cell_place code (pos p) c h = (
  p,
  refl,
  ⊎_elim (λ l. l)
      (λ g. absurd (past (slice_get code p) (slice_get_past code p g) h)) (cases_lt p (length code)),
)
  where
    past : (o : Option Cell) → o ≡ None → o ≡ Some c → ⊥
    past o e k = cc
cell_place code (negsuc p) c h = absurd (none h)
  where
    none : None ≡ Some c → ⊥
    none e = cc

-- ---- the calling cell: BRA, or RBRA if the routine is to run the other way

abbrev pub call_cell : Bool → ℕ → Cell
call_cell false w = bra w
call_cell true w = rbra w

resolved_enter : (im : Image) (flip b : Bool) (r p top : ℕ) → slice_index im.routines r ≡ top
    → resolved im flip (pos p) (Enter r b) ≡ call_cell (bool_xor flip b) (between p top)
resolved_enter im false false r p top e = ap (λ t. bra (between p t)) e
resolved_enter im false true r p top e = ap (λ t. rbra (between p t)) e
resolved_enter im true false r p top e = ap (λ t. rbra (between p t)) e
resolved_enter im true true r p top e = ap (λ t. bra (between p t)) e

-- the branch register after the calling cell
abbrev call_word : Bool → ℕ → ℕ
call_word false w = w
call_word true w = negated w

call_acts : (kind d : Bool) (w br : ℕ) (pc : ℤ) (m : Memory)
    → effect (call_cell kind w) (state pc br d m) ≡ state pc (call_word kind (sum_of br (turned d w))) (bool_xor kind d)
    m
call_acts false false w br pc m = refl
call_acts false true w br pc m = refl
call_acts true false w br pc m = refl
call_acts true true w br pc m = refl

pub swap_acts : (d : Bool) (br : ℕ) (pc : ℤ) (m : Memory)
    → effect (swapbr 2) (state pc br d m) ≡ state pc (memory_reg m 2) d (memory_with_reg m 2 br)
swap_acts false br pc m = refl
swap_acts true br pc m = refl

call_goes : (kind : Bool) (w : ℕ) (t : State) → stop_at (Some (call_cell kind w)) t ≡ None
call_goes false w t = refl
call_goes true w t = refl

call_own : (kind : Bool) (w : ℕ) → is_end (call_cell kind w) ≡ false
call_own false w = refl
call_own true w = refl

call_level : (kind : Bool) (w : ℕ) (rs : List ℕ) (t : State) → change rs (call_cell kind w) t ≡ Same
call_level false w rs t = refl
call_level true w rs t = refl

call_br : (kind d : Bool) (p s : ℕ) → p ≢ s → p < 2 ^ 30 → s < 2 ^ 30
    → call_word kind (sum_of 0 (turned d (between p s))) ≡ toward (bool_xor kind d) p s
call_br false d p s ne hp hs = first_br false d p s ne hp hs
call_br true false p s ne hp hs = omega arith
call_br true true p s ne hp hs = omega arith

return_br : (kind d : Bool) (p s : ℕ) → s ≢ p → p < 2 ^ 30 → s < 2 ^ 30
    → call_word kind (sum_of (toward d s p) (turned d (between p s))) ≡ 0
return_br false d p s ne hp hs = second_br false d s p ne hs hp
return_br true d p s ne hp hs = ap negated (second_br false d s p ne hs hp)

xor_twice : (a b : Bool) → bool_xor a (bool_xor a b) ≡ b
xor_twice false b = refl
xor_twice true false = refl
xor_twice true true = refl

-- ---- in and out

module _ (im : Image) (f : Frame) (d kind : Bool) (a b x p top : ℕ) (lo : a ≤ x) (hi : x < b)
    (at_p : frame_address f x ≡ pos p)
    (caller : fetch im.code (pos p) ≡ Some (call_cell kind (between p (top + 1))))
    (sub : fetch im.code (pos (top + 1)) ≡ Some (swapbr 2)) (known : is_routine im.routines (pos (top + 1)) ≡ true)
    (ne : p ≢ top + 1) (hp : p < 2 ^ 30) (hs : top + 1 < 2 ^ 30) where
  abbrev dir : Bool
  dir = bool_xor f.flip d

  abbrev way : Bool
  way = bool_xor kind dir

  inside_here : (br : ℕ) → Inside f a b 0 (pos p) br
  inside_here br = subst (λ z. Inside f a b 0 z br) at_p (cell x lo hi)

  flies : (k : Bool) (x y : ℕ) → x ≢ y → x < 2 ^ 30 → y < 2 ^ 30 → 0 < toward k x y
  flies false x y n h g = omega arith
  flies true x y n h g = omega arith

  go_in : (m : Memory) → memory_reg m 2 ≡ 0 → Path im f a b 2 0 (at f d (near d x) m) 1
      (at code_line way (far way (top + 1)) (memory_with_reg m 2 (toward way p (top + 1))))
  go_in m z =
      let s0 = state (pos p) 0 dir m in
      let s1 = state (pos (top + 1)) (toward way p (top + 1)) way m in
      let s2 = at code_line way (far way (top + 1)) (memory_with_reg m 2 (toward way p (top + 1))) in
      let c = call_cell kind (between p (top + 1)) in
      let e1 : act c s0 ≡ s1 = acts_to c (pos p) (pos (top + 1)) 0 (toward way p (top + 1)) dir way m m
      (call_acts kind dir (between p (top + 1)) 0 (pos p) m
      ∙ ap (λ n. state (pos p) n way m) (call_br kind dir p (top + 1) ne hp hs))
      (line_to way p (top + 1) ne hp hs) in
      let p1 = step_to im f a b 0 0 c Same s0 s1 (inside_here 0) caller (call_own kind (between p (top + 1)))
      (call_goes kind (between p (top + 1)) s0) (call_level kind (between p (top + 1)) im.routines s0) same e1 in
      let g : change im.routines (swapbr 2) s1 ≡ Enters = ap
      (λ t. if t then (if nat_eq (memory_reg m 2) 0 then Enters else Leaves) else Same) known
      ∙ ap (λ n. if nat_eq n 0 then Enters else Leaves) z in
      let fr : pos (top + 1) +ℤ along way (stride 0) ≡ spot false way (pos 0) (far way (top + 1)) =
      subst (λ z. z +ℤ along way (pos 1) ≡ spot false way (pos 0) (far way (top + 1))) (on_line (top + 1))
      (far_is false way (pos 0) (top + 1)) in
      let m1 = memory_with_reg m 2 (toward way p (top + 1)) in
      let e2 : act (swapbr 2) s1 ≡ s2 = acts_to (swapbr 2) (pos (top + 1)) (spot false way (pos 0) (far way (top + 1)))
      (toward way p (top + 1)) 0 way way m m1 (swap_acts way (toward way p (top + 1)) (pos (top + 1)) m
      ∙ ap (λ n. state (pos (top + 1)) n way m1) z) fr in
      let p2 = step_to im f a b 0 1 (swapbr 2) Enters s1 s2 (in_flight (flies way p (top + 1) ne hp hs)) sub refl refl g
      enters e2 in
      let start : spot f.flip d f.base (near d x) ≡ pos p = near_is f.flip d f.base x ∙ at_p in
      subst (λ z. Path im f a b 2 0 (state z 0 dir m) 1 s2) (sym start) (append p1 p2)

  go_out : (m : Memory) → memory_reg m 2 ≡ toward way (top + 1) p
      → Path im f a b 2 1 (at code_line way (near way (top + 1)) m) 0 (at f d (far d x) (memory_with_reg m 2 0))
  go_out m z =
      let n = memory_with_reg m 2 0 in
      let s0 = state (pos (top + 1)) 0 way m in
      let s1 = state (pos p) (toward way (top + 1) p) way n in
      let s2 = at f d (far d x) n in
      let c = call_cell kind (between p (top + 1)) in
      let en : top + 1 ≢ p = λ e. ne (sym e) in
      let fly = flies way (top + 1) p en hs hp in
      let nz : nat_eq (toward way (top + 1) p) 0 ≡ false = grind (arith, nat_tests) in
      let g : change im.routines (swapbr 2) s0 ≡ Leaves = ap
      (λ t. if t then (if nat_eq (memory_reg m 2) 0 then Enters else Leaves) else Same) known
      ∙ ap (λ n. if nat_eq n 0 then Enters else Leaves) z ∙ ap (λ t. if t then Enters else Leaves) nz in
      let e1 : act (swapbr 2) s0 ≡ s1 = acts_to (swapbr 2) (pos (top + 1)) (pos p) 0 (toward way (top + 1) p) way way m
      n (swap_acts way 0 (pos (top + 1)) m ∙ ap (λ v. state (pos (top + 1)) v way n) z)
      (line_to way (top + 1) p en hs hp) in
      let p1 = step_to im f a b 1 0 (swapbr 2) Leaves s0 s1 open_call sub refl refl g leaves e1 in
      let bk : bool_xor kind way ≡ dir = xor_twice kind dir in
      let fr : pos p +ℤ along dir (stride 0) ≡ spot f.flip d f.base (far d x) =
      subst (λ z. z +ℤ along dir (pos 1) ≡ spot f.flip d f.base (far d x)) at_p (far_is f.flip d f.base x) in
      let e2 : act c s1 ≡ s2 = acts_to c (pos p) (spot f.flip d f.base (far d x)) (toward way (top + 1) p) 0 way dir n n
      (call_acts kind way (between p (top + 1)) (toward way (top + 1) p) (pos p) n
      ∙ ap (λ v. state (pos p) v (bool_xor kind way) n) (return_br kind way p (top + 1) en hp hs)
      ∙ ap (λ k. state (pos p) 0 k n) bk) fr in
      let p2 = step_to im f a b 0 0 c Same s1 s2 (inside_here _) caller (call_own kind (between p (top + 1)))
      (call_goes kind (between p (top + 1)) s1) (call_level kind (between p (top + 1)) im.routines s1) same e2 in
      let start : spot false way (pos 0) (near way (top + 1)) ≡ pos (top + 1) = near_is false way (pos 0) (top + 1)
      ∙ on_line (top + 1) in
      subst (λ z. Path im f a b 2 1 (state z 0 way m) 0 s2) (sym start) (append p1 p2)

-- ---- the routine, from its SWAPBR cell to its SWAPBR cell

pub set_set : (l : List ℕ) (i x y : ℕ) → slice_set (slice_set l i x) i y ≡ slice_set l i y
set_set [] i x y = refl
set_set (a ∷ l) zero x y = refl
set_set (a ∷ l) (suc i) x y = ap (λ t. a ∷ t) (set_set l i x y)

pub reg_same : (m : Memory) (w : ℕ) → 2 < length m.regs → memory_reg (memory_with_reg m 2 w) 2 ≡ w
reg_same m w h = get_or-set_same m.regs 2 w 0 h

pub with_twice : (m : Memory) (x y : ℕ) → memory_with_reg (memory_with_reg m 2 x) 2 y ≡ memory_with_reg m 2 y
with_twice m x y = ap (λ l. record m { regs = l }) (set_set m.regs 2 x y)

-- a register that holds no 0 is there
pub there : (l : List ℕ) (i w : ℕ) → slice_index l i ≡ w → 0 < w → i < length l
there [] i w h g = absurd (omega arith)
there (a ∷ l) zero w h g = omega arith
there (a ∷ l) (suc i) w h g = let r = there l i w h g in omega arith

-- what is to hold after the body, which leaves $2 as it found it
abbrev pub Returns : ℕ → Bool → (Outcome → Type 0) → Outcome → Type 0
Returns w d Q (Done m k) = (memory_reg m 2 ≡ w) × Q (Done (memory_with_reg m 2 0) (k + 7))
Returns w d Q (Trapped v k) = Q (Trapped v (lead d + k))
Returns w d Q (Bad v k) = Q (Bad v (lead d + k))
Returns w d Q (Still k) = Q (Still (lead d + k))

module _ (im : Image) (r top : ℕ) (body : List Symbol) (t : Routine im r top body) where
  abbrev pub bot : ℕ
  bot = top + 1 + 1 + 1 + length body

  abbrev pub chosen_end : Bool → ℕ
  chosen_end false = bot
  chosen_end true = top

  abbrev pub other_end : Bool → ℕ
  other_end false = top
  other_end true = bot

  -- the jump between the two ends
  pub ends_jump : (d : Bool) (m : Memory) → Way im code_line d top (bot + 1) 2 (near d (chosen_end d)) m
      (far d (other_end d)) m
  ends_jump false m = jump im code_line false top (bot + 1) bot top m (let s = t.small in omega arith)
      (let s = t.small in omega arith) (let s = t.small in omega arith) (omega arith) (omega arith) (omega arith)
      (omega arith) t.bot_cell t.top_cell
  ends_jump true m = jump im code_line true top (bot + 1) top bot m (let s = t.small in omega arith)
      (let s = t.small in omega arith) (let s = t.small in omega arith) (omega arith) (omega arith) (omega arith)
      (omega arith) t.top_cell t.bot_cell

  pub negates : (d : Bool) (m : Memory) → Way im code_line d top (bot + 1) 1 (near d (top + 1 + 1)) m
      (far d (top + 1 + 1)) (memory_with_reg m 2 (negated (memory_reg m 2)))
  negates false m = calm_way im code_line false top (bot + 1) (top + 1 + 1) (neg 2) m _ (omega arith) (omega arith)
      t.neg_cell (calm_single false false (neg 2) m refl (omega arith) refl)
  negates true m = calm_way im code_line true top (bot + 1) (top + 1 + 1) (neg 2) m _ (omega arith) (omega arith)
      t.neg_cell (calm_single false true (neg 2) m refl (omega arith) refl)

  module _ (f : Frame) (d kind : Bool) (a b x p : ℕ) (lo : a ≤ x) (hi : x < b) (at_p : frame_address f x ≡ pos p)
      (caller : fetch im.code (pos p) ≡ Some (call_cell kind (between p (top + 1)))) (ne : p ≢ top + 1)
      (hp : p < 2 ^ 30) (back : Bool) (eq : bool_xor kind (bool_xor f.flip d) ≡ back) where
    hs : top + 1 < 2 ^ 30
    hs = let s = t.small in omega arith

    sub : fetch im.code (pos (top + 1)) ≡ Some (swapbr 2)
    sub = subst (λ z. fetch im.code z ≡ Some (swapbr 2)) (on_line (top + 1)) t.sub_cell

    -- from the caller's cell into the routine, and out of it
    pub enter_path : (m : Memory) → memory_reg m 2 ≡ 0 → Path im f a b 2 0 (at f d (near d x) m) 1
        (at code_line back (far back (top + 1)) (memory_with_reg m 2 (toward back p (top + 1))))
    enter_path m z = subst (λ y. Path im f a b 2 0 (at f d (near d x) m) 1
        (at code_line y (far y (top + 1)) (memory_with_reg m 2 (toward y p (top + 1))))) eq
        (go_in im f d kind a b x p top lo hi at_p caller sub t.known ne hp hs m z)

    pub leave_path : (m : Memory) → memory_reg m 2 ≡ toward back (top + 1) p
        → Path im f a b 2 1 (at code_line back (near back (top + 1)) m) 0 (at f d (far d x) (memory_with_reg m 2 0))
    leave_path m z = subst (λ y. Path im f a b 2 1 (at code_line y (near y (top + 1)) m) 0
        (at f d (far d x) (memory_with_reg m 2 0))) eq (go_out im f d kind a b x p top lo hi at_p caller sub t.known ne
        hp hs
        m (z ∙ sym (ap (λ y. toward y (top + 1) p) eq)))

    -- all of it, given what the routine does between
    whole : (k : ℕ) (m m1 : Memory) → memory_reg m 2 ≡ 0 → memory_reg m1 2 ≡ toward back (top + 1) p
        → Way im code_line back top (bot + 1) k (far back (top + 1)) (memory_with_reg m 2 (toward back p (top + 1)))
        (near back (top + 1)) m1 → Way im f d a b (2 + (k + 2)) (near d x) m (far d x) (memory_with_reg m1 2 0)
    whole k m m1 z z1 w = record {
      path = append (enter_path m z) (append (within_call f a b w.path) (leave_path m1 z1));
    }

    within : (m : Memory) (j : ℕ) (o : Outcome) → memory_reg m 2 ≡ 0 → IsOutcomeOver o
        → Ends im code_line back top (bot + 1) (far back (top + 1)) (memory_with_reg m 2 (toward back p (top + 1))) j o
        → Ends im f d a b (near d x) m (far d x) (outcome_after 2 o)
    within m j (Done m1 k) z v (finishes w) = absurd v
    within m j (Trapped y k) z v (traps h) = traps (record {
      last = h.last;
      depth = suc h.depth;
      path = append (enter_path m z) (within_call f a b h.path);
      stops = h.stops;
      inside = open_call;
    })
    within m j (Bad y k) z v (bad h) = bad (record {
      last = h.last;
      depth = suc h.depth;
      path = append (enter_path m z) (within_call f a b h.path);
      stops = h.stops;
      inside = open_call;
    })
    within m j (Still k) z v (still g) = still (record {
      last = g.last;
      depth = suc g.depth;
      path = append (enter_path m z) (within_call f a b g.path);
    })

-- ---- the law

pub same_out : {im : Image} {f : Frame} {d : Bool} {a b i j : ℕ} {m : Memory} (o o' : Outcome) → o ≡ o'
    → Ends im f d a b i m j o → Ends im f d a b i m j o'
same_out {im = im} {f = f} {d = d} {a = a} {b = b} {i = i} {j = j} {m = m} o o' e h =
    subst (λ z. Ends im f d a b i m j z) e h

pub neg_between : (x y : ℕ) → x ≢ y → x < 2 ^ 30 → y < 2 ^ 30 → negated (between x y) ≡ between y x
neg_between x y n h k = omega arith

pub between_positive : (x y : ℕ) → x ≢ y → x < 2 ^ 30 → y < 2 ^ 30 → 0 < between x y
between_positive x y n h k = omega arith

module _ (im : Image) (r top : ℕ) (body : List Symbol) (t : Routine im r top body) (f : Frame) (d kind : Bool)
    (a b x p : ℕ) (lo : a ≤ x) (hi : x < b) (at_p : frame_address f x ≡ pos p)
    (caller : fetch im.code (pos p) ≡ Some (call_cell kind (between p (top + 1)))) (ne : p ≢ top + 1) (hp : p < 2 ^ 30)
    (m : Memory) (z : memory_reg m 2 ≡ 0) (room : 2 < length m.regs) (Q : Outcome → Type 0) where
  abbrev s : ℕ
  s = top + 1

  abbrev w : ℕ
  w = between (top + 1) p

  abbrev b0 : ℕ
  b0 = top + 1 + 1 + 1

  abbrev b1 : ℕ
  b1 = top + 1 + 1 + 1 + length body

  hs' : top + 1 < 2 ^ 30
  hs' = let l = t.small in omega arith

  sne : top + 1 ≢ p
  sne e = ne (sym e)

  -- forward: NEG, the body, the jump
  along_body : (eq : bool_xor kind (bool_xor f.flip d) ≡ false) (o : Outcome)
      → Ends im code_line false b0 b1 b0 (memory_with_reg m 2 w) b1 o → Returns w false Q o
      → (o : Outcome) × Ends im f d a b (near d x) m (far d x) o × Q o
  along_body eq o h q = go o (ends_wider top (b1 + 1) (omega arith) (omega arith) h) q
    where
      first : Way im code_line false top (b1 + 1) 1 (top + 1 + 1) (memory_with_reg m 2 (between p (top + 1))) b0
          (memory_with_reg m 2 w)
      first =
          let e : memory_with_reg (memory_with_reg m 2 (between p (top + 1))) 2
          (negated (memory_reg (memory_with_reg m 2 (between p (top + 1))) 2))
          ≡ memory_with_reg m 2 w = with_twice m _ _ ∙ ap (λ v. memory_with_reg m 2 (negated v)) (reg_same m _ room)
          ∙ ap (memory_with_reg m 2) (neg_between p (top + 1) ne hp hs') in
          subst (λ y. Way im code_line false top (b1 + 1) 1 (top + 1 + 1) (memory_with_reg m 2 (between p (top + 1))) b0
          y) e
          (negates im r top body t false (memory_with_reg m 2 (between p (top + 1))))

      go : (o : Outcome) → Ends im code_line false top (b1 + 1) b0 (memory_with_reg m 2 w) b1 o → Returns w false Q o
          → (o : Outcome) × Ends im f d a b (near d x) m (far d x) o × Q o
      go (Done m1 k) (finishes v) q =
          let mid = and_then first (and_then v (ends_jump im r top body t false m1)) in
          let all = whole im r top body t f d kind a b x p lo hi at_p caller ne hp false eq (1 + (k + 2)) m m1 z q.0 mid
          in (
            Done (memory_with_reg m1 2 0) (k + 7),
            finishes (from_to (let c : 2 + (1 + (k + 2) + 2) ≡ k + 7 = omega arith in c)
                refl refl all),
            q.1,
          )
      go (Trapped y k) (traps h) q = (
        Trapped y (lead false + k),
        same_out _ _ (let c : 2 + (1 + k) ≡ 3 + k = omega arith in ap (Trapped y) c)
            (within im r top body t f d kind a b x p lo hi at_p caller ne hp false eq m b1 (Trapped y (1 + k)) z tt
            (ends_after first (traps h))),
        q,
      )
      go (Bad y k) (bad h) q = (
        Bad y (lead false + k),
        same_out _ _
            (let c : 2 + (1 + k) ≡ 3 + k = omega arith in ap (Bad y) c)
            (within im r top body t f d kind a b x p lo hi at_p caller ne hp false eq m b1 (Bad y (1 + k)) z tt
            (ends_after first (bad h))),
        q,
      )
      go (Still k) (still h) q = (
        Still (lead false + k),
        same_out _ _
            (let c : 2 + (1 + k) ≡ 3 + k = omega arith in ap Still c)
            (within im r top body t f d kind a b x p lo hi at_p caller ne hp false eq m b1 (Still (1 + k)) z tt
            (ends_after first (still h))),
        q,
      )

  -- back: the jump, the body, NEG
  back_body : (eq : bool_xor kind (bool_xor f.flip d) ≡ true) (o : Outcome)
      → Ends im code_line true b0 b1 b1 (memory_with_reg m 2 w) b0 o → Returns w true Q o
      → (o : Outcome) × Ends im f d a b (near d x) m (far d x) o × Q o
  back_body eq o h q = go o (ends_wider top (b1 + 1) (omega arith) (omega arith) h) q
    where
      first : Way im code_line true top (b1 + 1) 2 (top + 1) (memory_with_reg m 2 w) b1 (memory_with_reg m 2 w)
      first = ends_jump im r top body t true (memory_with_reg m 2 w)

      go : (o : Outcome) → Ends im code_line true top (b1 + 1) b1 (memory_with_reg m 2 w) b0 o → Returns w true Q o
          → (o : Outcome) × Ends im f d a b (near d x) m (far d x) o × Q o
      go (Done m1 k) (finishes v) q =
          let wide : 2 < length m1.regs = there m1.regs 2 w q.0 (between_positive (top + 1) p sne hs' hp) in
          let m2 = memory_with_reg m1 2 (negated (memory_reg m1 2)) in
          let out : memory_reg m2 2 ≡ between p (top + 1) = reg_same m1 _ wide ∙ ap negated q.0
          ∙ neg_between (top + 1) p sne hs' hp in
          let mid = and_then first (and_then v (negates im r top body t true m1)) in
          let all = whole im r top body t f d kind a b x p lo hi at_p caller ne hp true eq (2 + (k + 1)) m m2 z out mid
          in
          let all' = from_to (let c : 2 + (2 + (k + 1) + 2) ≡ k + 7 = omega arith in c) refl refl all in (
            Done (memory_with_reg m1 2 0) (k + 7),
            finishes (subst (λ y. Way im f d a b (k + 7) (near d x) m (far d x) y)
                (with_twice m1 _ 0) all'),
            q.1,
          )
      go (Trapped y k) (traps h) q = (
        Trapped y (lead true + k),
        same_out _ _ (let c : 2 + (2 + k) ≡ 4 + k = omega arith in ap (Trapped y) c)
            (within im r top body t f d kind a b x p lo hi at_p caller ne hp true eq m b0 (Trapped y (2 + k)) z tt
            (ends_after first (traps h))),
        q,
      )
      go (Bad y k) (bad h) q = (
        Bad y (lead true + k),
        same_out _ _
            (let c : 2 + (2 + k) ≡ 4 + k = omega arith in ap (Bad y) c)
            (within im r top body t f d kind a b x p lo hi at_p caller ne hp true eq m b0 (Bad y (2 + k)) z tt
            (ends_after first (bad h))),
        q,
      )
      go (Still k) (still h) q = (
        Still (lead true + k),
        same_out _ _
            (let c : 2 + (2 + k) ≡ 4 + k = omega arith in ap Still c)
            (within im r top body t f d kind a b x p lo hi at_p caller ne hp true eq m b0 (Still (2 + k)) z tt
            (ends_after first (still h))),
        q,
      )

  called : (way : Bool) (eq : bool_xor kind (bool_xor f.flip d) ≡ way)
      → Will im body way (memory_with_reg m 2 w) (Returns w way Q)
      → (o : Outcome) × Ends im f d a b (near d x) m (far d x) o × Q o
  called false eq h = let e = h.will code_line b0 t.small t.body_there in along_body eq e.0 e.1 e.2
  called true eq h = let e = h.will code_line b0 t.small t.body_there in back_body eq e.0 e.1 e.2

way_is : (flip b d : Bool) → bool_xor (bool_xor flip b) (bool_xor flip d) ≡ bool_xor b d
way_is false b d = refl
way_is true false false = refl
way_is true false true = refl
way_is true true false = refl
way_is true true true = refl

gaps : (im : Image) (f : Frame) (d : Bool) (i : ℕ) (m : Memory) (Q : Outcome → Type 0)
    → (o : Outcome) × Ends im f d i (i + 1) (near d i) m (far d i) o × Q o
    → (o : Outcome) × Ends im f d i (i + 1) (near_end d i (i + 1)) m (far_end d i (i + 1)) o × Q o
gaps im f false i m Q h = h
gaps im f true i m Q h = h

not_swap : (k : Bool) (w n : ℕ) → call_cell k w ≡ swapbr n → ⊥
not_swap false w n e = let l : Bra ≡ Swapbr = ap (λ (c : Cell). c.op) e in cc
not_swap true w n e = let l : Rbra ≡ Swapbr = ap (λ (c : Cell). c.op) e in cc

-- a caller's cell is not the routine's SWAPBR cell
pub apart : (im : Image) (k : Bool) (w p s : ℕ) → fetch im.code (pos p) ≡ Some (call_cell k w)
    → fetch im.code (pos s) ≡ Some (swapbr 2) → p ≢ s
apart im k w p s h g e =
    let j : fetch im.code (pos s) ≡ Some (call_cell k w) =
    subst (λ z. fetch im.code (pos z) ≡ Some (call_cell k w)) e h in
    let i : Some (call_cell k w) ≡ Some (swapbr 2) = sym j ∙ g in
    not_swap k w 2 (let l : call_cell k w ≡ swapbr 2 = cc in l)

pub between_small : (x y : ℕ) → between x y < 2 ^ 32
between_small x y = omega arith

-- the link is a word that is not 0
pub will_enter : (im : Image) (r top : ℕ) (body : List Symbol) (b d : Bool) (m : Memory) (Q : Outcome → Type 0)
    → Routine im r top body → length im.code < 2 ^ 30 → 2 < length m.regs → memory_reg m 2 ≡ 0
    → ((w : ℕ) → 0 < w → w < 2 ^ 32 → Will im body (bool_xor b d) (memory_with_reg m 2 w) (Returns w (bool_xor b d) Q))
    → Will im (Enter r b ∷ []) d m Q
will_enter im r top body b d m Q t small room z h = record {
  will = λ f i l st.
      let c = cell_place im.code (frame_address f i) (resolved im f.flip (frame_address f i) (Enter r b)) st.0 in
      let p = c.0 in
      let caller : fetch im.code (pos p) ≡ Some (call_cell (bool_xor f.flip b) (between p (top + 1))) =
      subst (λ z. fetch im.code z ≡ Some (resolved im f.flip z (Enter r b))) c.1 st.0
      ∙ ap Some (resolved_enter im f.flip b r p (top + 1) t.listed) in
      let sub : fetch im.code (pos (top + 1)) ≡ Some (swapbr 2) =
      subst (λ z. fetch im.code z ≡ Some (swapbr 2)) (on_line (top + 1)) t.sub_cell in
      let ne : p ≢ top + 1 = apart im (bool_xor f.flip b) (between p (top + 1)) p (top + 1) caller sub in
      let hp : p < 2 ^ 30 = omega (arith, c.2) in
      let hs : top + 1 < 2 ^ 30 = (let s = t.small in omega arith) in
      let sne : top + 1 ≢ p = λ e. ne (sym e) in
      gaps im f d i m Q (called im r top body t f d (bool_xor f.flip b) i (i + 1) i p (omega arith) (omega arith) c.1
      caller
      ne hp m z room Q (bool_xor b d) (way_is f.flip b d) (h (between (top + 1) p)
      (between_positive (top + 1) p sne hs hp) (between_small (top + 1) p)));
}
