-- One cell, or one pair of branches, along the line or back.
use Rattle.std.proofs.Common.{◌≡◌, ◌≢◌, ℕ, ◌^◌, ◌<◌, ◌≤◌, Bool, true, false, List, Some, None, refl, sym, ap, ◌∙◌}
use Rattle.std.proofs.Common.{subst, arith}
use Rattle.std.specs.Prelude.{ℤ, pos, ◌+ℤ◌, Option, not, nat_eq, nat_lt, if◌then◌else◌, slice_index}
use Rattle.std.proofs.lemmas.Bool.Decides.{nat_tests}
use Rattle.code_conventions.specs.rpp_words.Words.{sum_of}
use Rattle.code_conventions.specs.pisa_isa.declared.cell.Op.{Op}
use Rattle.code_conventions.specs.pisa_isa.declared.cell.Op.TheVariants.{Add, Addi, Exch, Swapbr, Bra, Rbra, Beq}
use Rattle.code_conventions.specs.pisa_isa.declared.cell.Op.TheVariants.{Bne, Bgez, Bgtz, Blez, Bltz, Start, Finish}
use Rattle.code_conventions.specs.pisa_isa.declared.cell.Op.TheVariants.{DataWord}
use Rattle.code_conventions.specs.pisa_isa.declared.cell.Cell.{Cell}
use Rattle.code_conventions.specs.pisa_isa.Table.{inverse_op, inverse_word, inverse_of}
use Rattle.code_conventions.specs.pisa_isa.declared.machine.Stop.{Stop}
use Rattle.code_conventions.specs.pisa_isa.declared.machine.Stop.TheVariants.{BadAddress}
use Rattle.code_conventions.specs.pisa_isa.Machine.{State, row, row_of, faced, effect, moved, stride, fetch, stop_at}
use Rattle.code_conventions.specs.pisa_isa.Machine.{stop_in, has_cell}
use Rattle.code_conventions.specs.pisa_isa.Machine.{Memory, memory_of}
use Rattle.code_conventions.proofs.pisa_isa_laws.Mirror.{inverse_op-twice, inverse_word-twice}
use Rattle.code_conventions.specs.Cells.{bra}
use Rattle.paired_code.specs.Cells.{beq, bne, bgtz, bltz}
use Rattle.paired_code.specs.Machine.{state, Image, act, reversed, reversed_word, effect_along, is_single_op, is_single}
use Rattle.paired_code.specs.Machine.{is_end_op, is_end, memory_reg, change_by, change, Same, Level, same}
use Rattle.paired_code.specs.Layout.{bool_xor, Frame, spot, frame_address, at, between}
use Rattle.paired_code.specs.Pieces.{cell, Path, stay, step, Way}
use Rattle.paired_code.proofs.Words.{along, turned, is_positive, is_negative, place_along, flipped, opposite_twice}
use Rattle.paired_code.proofs.Words.{toward, first_br, second_br, goes_to, near, far, near_is, far_is}
use Rattle.paired_code.proofs.Paths.{append}

abbrev pub oriented : Bool → Cell → Cell
oriented false c = c
oriented true c = reversed c

-- the cell is at the line's cell x
abbrev pub Has : Image → Frame → ℕ → Cell → Type 0
Has im f x c = fetch im.code (frame_address f x) ≡ Some (oriented f.flip c)

-- an instruction that only changes the memory, here
pub record Calm (flip d : Bool) (c : Cell) (m m' : Memory) : Type 0 where
  pub acts : (pc : ℤ) → effect (oriented flip c) (state pc 0 (bool_xor flip d) m) ≡ state pc 0 (bool_xor flip d) m'
  pub own : is_end (oriented flip c) ≡ false
  pub goes : (pc : ℤ) → stop_at (Some (oriented flip c)) (state pc 0 (bool_xor flip d) m) ≡ None
  pub level : (rs : List ℕ) (pc : ℤ) → change rs (oriented flip c) (state pc 0 (bool_xor flip d) m) ≡ Same

-- a branch that is taken, here
pub record Takes (flip : Bool) (c : Cell) (m : Memory) (w : ℕ) : Type 0 where
  pub acts : (pc : ℤ) (br : ℕ) (back : Bool) → effect (oriented flip c) (state pc br back m)
      ≡ state pc (sum_of br (turned back (flipped flip w))) back m
  pub own : is_end (oriented flip c) ≡ false
  pub goes : (pc : ℤ) (br : ℕ) (back : Bool) → stop_at (Some (oriented flip c)) (state pc br back m) ≡ None
  pub level : (rs : List ℕ) (pc : ℤ) (br : ℕ) (back : Bool) → change rs (oriented flip c) (state pc br back m) ≡ Same

pub moved_is : (pc pc' : ℤ) (br : ℕ) (k : Bool) (m : Memory) → pc +ℤ along k (stride br) ≡ pc'
    → moved (state pc br k m) ≡ state pc' br k m
moved_is pc pc' br k m e = ap (λ z. state z br k m) (place_along k pc br ∙ e)

-- one step from a cell's place
one : (im : Image) (f : Frame) (a b x : ℕ) (c : Cell) (br br' : ℕ) (k : Bool) (m m' : Memory) (pc' : ℤ) → a ≤ x → x < b
    → fetch im.code (frame_address f x) ≡ Some c → stop_at (Some c) (state (frame_address f x) br k m) ≡ None
    → is_end c ≡ false
    → change im.routines c (state (frame_address f x) br k m) ≡ Same
    → effect c (state (frame_address f x) br k m) ≡ state (frame_address f x) br' k m'
    → frame_address f x +ℤ along k (stride br') ≡ pc'
    → Path im f a b 1 0 (state (frame_address f x) br k m) 0 (state pc' br' k m')
one im f a b x c br br' k m m' pc' lo hi h n v l e1 e2 =
    let s = state (frame_address f x) br k m in
    let e : act c s ≡ state pc' br' k m' = ap moved e1 ∙ moved_is (frame_address f x) pc' br' k m' e2 in
    let lv : Level (change im.routines c s) 0 0 = subst (λ g. Level g 0 0) (sym l) same in
    subst (λ t. Path im f a b 1 0 s 0 t) e (step c (cell x lo hi) h n v lv stay)

pub calm_way : (im : Image) (f : Frame) (d : Bool) (a b x : ℕ) (c : Cell) (m m' : Memory) → a ≤ x → x < b → Has im f x c
    → Calm f.flip d c m m' → Way im f d a b 1 (near d x) m (far d x) m'
calm_way im f d a b x c m m' lo hi h q =
    let p = one im f a b x (oriented f.flip c) 0 0 (bool_xor f.flip d) m m' (spot f.flip d f.base (far d x)) lo hi h
    (q.goes (frame_address f x)) q.own (q.level im.routines (frame_address f x)) (q.acts (frame_address f x))
    (far_is f.flip d f.base x) in
    record {
      path = subst (λ z. Path im f a b 1 0 (state z 0 (bool_xor f.flip d) m) 0 (at f d (far d x) m'))
          (sym (near_is f.flip d f.base x)) p;
    }

-- a branch that is taken, as one step from its place
taken : (im : Image) (f : Frame) (a b x : ℕ) (c : Cell) (br w br' : ℕ) (k : Bool) (m : Memory) (pc' : ℤ) → a ≤ x → x < b
    → Has im f x c → Takes f.flip c m w → sum_of br (turned k (flipped f.flip w)) ≡ br'
    → frame_address f x +ℤ along k (stride br') ≡ pc' → Path im f a b 1 0 (state (frame_address f x) br k m) 0
    (state pc' br' k m)
taken im f a b x c br w br' k m pc' lo hi h q e g =
    one im f a b x (oriented f.flip c) br br' k m m pc' lo hi h (q.goes (frame_address f x) br k) q.own
    (q.level im.routines (frame_address f x) br k) (q.acts (frame_address f x) br k
    ∙ ap (λ z. state (frame_address f x) z k m) e) g

pub hop_way : (im : Image) (f : Frame) (d : Bool) (a b x y : ℕ) (c c' : Cell) (m : Memory) → x ≢ y → x < 2 ^ 30
    → y < 2 ^ 30 → a ≤ x → x < b → a ≤ y → y < b → Has im f x c → Has im f y c' → Takes f.flip c m (between x y)
    → Takes f.flip c' m (between y x) → Way im f d a b 2 (near d x) m (far d y) m
hop_way im f d a b x y c c' m ne hx hy lx ux ly uy h h' q q' =
    let k = bool_xor f.flip d in
    let w = toward d x y in
    let p1 = taken im f a b x c 0 (between x y) w k m (frame_address f y) lx ux h q (first_br f.flip d x y ne hx hy)
    (goes_to f.flip d f.base x y ne hx hy) in
    let p2 = taken im f a b y c' w (between y x) 0 k m (spot f.flip d f.base (far d y)) ly uy h' q'
    (second_br f.flip d x y ne hx hy) (far_is f.flip d f.base y) in
    record {
      path = subst (λ z. Path im f a b 2 0 (state z 0 k m) 0 (at f d (far d y) m))
          (sym (near_is f.flip d f.base x)) (append p1 p2);
    }

-- a branch that is taken, as one step from the gap before it to the place that it leads to
pub leap : (im : Image) (f : Frame) (d : Bool) (a b x y : ℕ) (c : Cell) (m : Memory) → x ≢ y → x < 2 ^ 30 → y < 2 ^ 30
    → a ≤ x → x < b → Has im f x c → Takes f.flip c m (between x y)
    → Path im f a b 1 0 (at f d (near d x) m) 0 (state (frame_address f y) (toward d x y) (bool_xor f.flip d) m)
leap im f d a b x y c m ne hx hy lx ux h q =
    let k = bool_xor f.flip d in
    let w = toward d x y in
    let p1 = taken im f a b x c 0 (between x y) w k m (frame_address f y) lx ux h q (first_br f.flip d x y ne hx hy)
    (goes_to f.flip d f.base x y ne hx hy) in
    subst (λ z. Path im f a b 1 0 (state z 0 k m) 0 (state (frame_address f y) w k m)) (sym (near_is f.flip d f.base x))
    p1

-- ---- the branches

-- the branch register after a branch that is taken or not
abbrev after_test : Bool → ℕ → ℕ → ℕ
after_test t br o = if t then sum_of br o else br

bra_acts : (flip k : Bool) (m : Memory) (w : ℕ) (pc : ℤ) (br : ℕ)
    → effect (oriented flip (bra w)) (state pc br k m) ≡ state pc (sum_of br (turned k (flipped flip w))) k m
bra_acts false false m w pc br = refl
bra_acts false true m w pc br = refl
bra_acts true false m w pc br = refl
bra_acts true true m w pc br = refl

gt_acts : (flip k : Bool) (r : ℕ) (m : Memory) (w : ℕ) (t : Bool) → is_positive (memory_reg m r) ≡ t → (pc : ℤ) (br : ℕ)
    → effect (oriented flip (bgtz r w)) (state pc br k m) ≡ state pc (after_test t br (turned k (flipped flip w))) k m
gt_acts false false r m w t h pc br = ap (λ t. state pc (after_test t br w) false m) h
gt_acts false true r m w t h pc br = ap (λ t. state pc (after_test t br (turned true w)) true m) h
gt_acts true false r m w t h pc br = ap (λ t. state pc (after_test t br (flipped true w)) false m) h
gt_acts true true r m w t h pc br = ap (λ t. state pc (after_test t br (turned true (flipped true w))) true m) h

lt_acts : (flip k : Bool) (r : ℕ) (m : Memory) (w : ℕ) (t : Bool) → is_negative (memory_reg m r) ≡ t → (pc : ℤ) (br : ℕ)
    → effect (oriented flip (bltz r w)) (state pc br k m) ≡ state pc (after_test t br (turned k (flipped flip w))) k m
lt_acts false false r m w t h pc br = ap (λ t. state pc (after_test t br w) false m) h
lt_acts false true r m w t h pc br = ap (λ t. state pc (after_test t br (turned true w)) true m) h
lt_acts true false r m w t h pc br = ap (λ t. state pc (after_test t br (flipped true w)) false m) h
lt_acts true true r m w t h pc br = ap (λ t. state pc (after_test t br (turned true (flipped true w))) true m) h

eq_acts : (flip k : Bool) (r s : ℕ) (m : Memory) (w : ℕ) (t : Bool) → nat_eq (memory_reg m r) (memory_reg m s) ≡ t
    → (pc : ℤ) (br : ℕ)
    → effect (oriented flip (beq r s w)) (state pc br k m) ≡ state pc (after_test t br (turned k (flipped flip w))) k m
eq_acts false false r s m w t h pc br = ap (λ t. state pc (after_test t br w) false m) h
eq_acts false true r s m w t h pc br = ap (λ t. state pc (after_test t br (turned true w)) true m) h
eq_acts true false r s m w t h pc br = ap (λ t. state pc (after_test t br (flipped true w)) false m) h
eq_acts true true r s m w t h pc br = ap (λ t. state pc (after_test t br (turned true (flipped true w))) true m) h

ne_acts : (flip k : Bool) (r s : ℕ) (m : Memory) (w : ℕ) (t : Bool) → nat_eq (memory_reg m r) (memory_reg m s) ≡ t
    → (pc : ℤ) (br : ℕ)
    → effect (oriented flip (bne r s w)) (state pc br k m)
    ≡ state pc (after_test (not t) br (turned k (flipped flip w))) k m
ne_acts false false r s m w t h pc br = ap (λ t. state pc (after_test (not t) br w) false m) h
ne_acts false true r s m w t h pc br = ap (λ t. state pc (after_test (not t) br (turned true w)) true m) h
ne_acts true false r s m w t h pc br = ap (λ t. state pc (after_test (not t) br (flipped true w)) false m) h
ne_acts true true r s m w t h pc br =
    ap (λ t. state pc (after_test (not t) br (turned true (flipped true w))) true m) h

pub takes_bra : (flip : Bool) (m : Memory) (w : ℕ) → Takes flip (bra w) m w
takes_bra false m w = record {
  acts = λ pc b k. bra_acts false k m w pc b;
  own = refl;
  goes = λ pc b k. refl;
  level = λ rs pc b k. refl;
}
takes_bra true m w = record {
  acts = λ pc b k. bra_acts true k m w pc b;
  own = refl;
  goes = λ pc b k. refl;
  level = λ rs pc b k. refl;
}

pub takes_gt : (flip : Bool) (r : ℕ) (m : Memory) (w : ℕ) → is_positive (memory_reg m r) ≡ true
    → Takes flip (bgtz r w) m w
takes_gt false r m w h = record {
  acts = λ pc b k. gt_acts false k r m w true h pc b;
  own = refl;
  goes = λ pc b k. refl;
  level = λ rs pc b k. refl;
}
takes_gt true r m w h = record {
  acts = λ pc b k. gt_acts true k r m w true h pc b;
  own = refl;
  goes = λ pc b k. refl;
  level = λ rs pc b k. refl;
}

pub takes_lt : (flip : Bool) (r : ℕ) (m : Memory) (w : ℕ) → is_negative (memory_reg m r) ≡ true
    → Takes flip (bltz r w) m w
takes_lt false r m w h = record {
  acts = λ pc b k. lt_acts false k r m w true h pc b;
  own = refl;
  goes = λ pc b k. refl;
  level = λ rs pc b k. refl;
}
takes_lt true r m w h = record {
  acts = λ pc b k. lt_acts true k r m w true h pc b;
  own = refl;
  goes = λ pc b k. refl;
  level = λ rs pc b k. refl;
}

pub takes_eq : (flip : Bool) (r s : ℕ) (m : Memory) (w : ℕ) → nat_eq (memory_reg m r) (memory_reg m s) ≡ true
    → Takes flip (beq r s w) m w
takes_eq false r s m w h = record {
  acts = λ pc b k. eq_acts false k r s m w true h pc b;
  own = refl;
  goes = λ pc b k. refl;
  level = λ rs pc b k. refl;
}
takes_eq true r s m w h = record {
  acts = λ pc b k. eq_acts true k r s m w true h pc b;
  own = refl;
  goes = λ pc b k. refl;
  level = λ rs pc b k. refl;
}

pub calm_eq : (flip d : Bool) (r s : ℕ) (m : Memory) (w : ℕ) → nat_eq (memory_reg m r) (memory_reg m s) ≡ false
    → Calm flip d (beq r s w) m m
calm_eq false d r s m w h = record {
  acts = λ pc. eq_acts false (bool_xor false d) r s m w false h pc 0;
  own = refl;
  goes = λ pc. refl;
  level = λ rs pc. refl;
}
calm_eq true d r s m w h = record {
  acts = λ pc. eq_acts true (bool_xor true d) r s m w false h pc 0;
  own = refl;
  goes = λ pc. refl;
  level = λ rs pc. refl;
}

pub takes_ne : (flip : Bool) (r s : ℕ) (m : Memory) (w : ℕ) → nat_eq (memory_reg m r) (memory_reg m s) ≡ false
    → Takes flip (bne r s w) m w
takes_ne false r s m w h = record {
  acts = λ pc b k. ne_acts false k r s m w false h pc b;
  own = refl;
  goes = λ pc b k. refl;
  level = λ rs pc b k. refl;
}
takes_ne true r s m w h = record {
  acts = λ pc b k. ne_acts true k r s m w false h pc b;
  own = refl;
  goes = λ pc b k. refl;
  level = λ rs pc b k. refl;
}

pub calm_ne : (flip d : Bool) (r s : ℕ) (m : Memory) (w : ℕ) → nat_eq (memory_reg m r) (memory_reg m s) ≡ true
    → Calm flip d (bne r s w) m m
calm_ne false d r s m w h = record {
  acts = λ pc. ne_acts false (bool_xor false d) r s m w true h pc 0;
  own = refl;
  goes = λ pc. refl;
  level = λ rs pc. refl;
}
calm_ne true d r s m w h = record {
  acts = λ pc. ne_acts true (bool_xor true d) r s m w true h pc 0;
  own = refl;
  goes = λ pc. refl;
  level = λ rs pc. refl;
}

pub calm_gt : (flip d : Bool) (r : ℕ) (m : Memory) (w : ℕ) → is_positive (memory_reg m r) ≡ false
    → Calm flip d (bgtz r w) m m
calm_gt false d r m w h = record {
  acts = λ pc. gt_acts false (bool_xor false d) r m w false h pc 0;
  own = refl;
  goes = λ pc. refl;
  level = λ rs pc. refl;
}
calm_gt true d r m w h = record {
  acts = λ pc. gt_acts true (bool_xor true d) r m w false h pc 0;
  own = refl;
  goes = λ pc. refl;
  level = λ rs pc. refl;
}

pub calm_lt : (flip d : Bool) (r : ℕ) (m : Memory) (w : ℕ) → is_negative (memory_reg m r) ≡ false
    → Calm flip d (bltz r w) m m
calm_lt false d r m w h = record {
  acts = λ pc. lt_acts false (bool_xor false d) r m w false h pc 0;
  own = refl;
  goes = λ pc. refl;
  level = λ rs pc. refl;
}
calm_lt true d r m w h = record {
  acts = λ pc. lt_acts true (bool_xor true d) r m w false h pc 0;
  own = refl;
  goes = λ pc. refl;
  level = λ rs pc. refl;
}

-- ---- inverses

pub either_way : (b : Bool) (i : ℕ) → (if b then i else i) ≡ i
either_way true i = refl
either_way false i = refl

word_twice : (op : Op) (i : ℕ) → reversed_word (inverse_op op) (reversed_word op i) ≡ i
word_twice Addi i = opposite_twice i
word_twice Bra i = opposite_twice i
word_twice Rbra i = opposite_twice i
word_twice Beq i = opposite_twice i
word_twice Bne i = opposite_twice i
word_twice Bgez i = opposite_twice i
word_twice Bgtz i = opposite_twice i
word_twice Blez i = opposite_twice i
word_twice Bltz i = opposite_twice i
word_twice _ i = either_way (nat_lt (if nat_lt i (2 ^ 32) then i else i) (2 ^ 32)) (if nat_lt i (2 ^ 32) then i else i)
    ∙ either_way (nat_lt i (2 ^ 32)) i

pub inverse_twice : (c : Cell) → reversed (reversed c) ≡ c
inverse_twice c = ap (λ o. record c { op = o; imm = reversed_word (inverse_op c.op) (reversed_word c.op c.imm) })
    (inverse_op-twice c.op) ∙ ap (λ i. record c { imm = i }) (word_twice c.op c.imm)

-- of a cell whose word is one, the inverse is the machine's
pub reversed_is : (c : Cell) → c.imm < 2 ^ 32 → reversed c ≡ inverse_of c
reversed_is c h =
    let e : nat_lt c.imm (2 ^ 32) ≡ true = grind (arith, nat_tests) in
    ap (λ t. record c { op = inverse_op c.op; imm = if t then inverse_word c.op c.imm else c.imm }) e

inverse_of_twice : (c : Cell) → c.imm < 2 ^ 32 → inverse_of (inverse_of c) ≡ c
inverse_of_twice c h = ap (λ o. record c { op = o; imm = inverse_word (inverse_op c.op) (inverse_word c.op c.imm) })
    (inverse_op-twice c.op) ∙ ap (λ i. record c { imm = i }) (inverse_word-twice c.op c.imm h)

-- which instruction acts does not depend on the direction of the cell
faced_is : (flip d : Bool) (c : Cell) → c.imm < 2 ^ 32 → faced (bool_xor flip d) (oriented flip c) ≡ faced d c
faced_is false d c h = refl
faced_is true false c h = ap inverse_of (reversed_is c h) ∙ inverse_of_twice c h
faced_is true true c h = reversed_is c h

-- ---- instructions that are no branch

single_acts : (op : Op) (a b c i : ℕ) → is_single_op op ≡ true → (pc : ℤ) (k : Bool) (m : Memory)
    → row op a b c i (state pc 0 k m) ≡ state pc 0 k (memory_of (row op a b c i (state (pos 0) 0 false m)))
single_acts Add a b c i h pc k m = refl
single_acts Swapbr a b c i h pc k m = cc
single_acts Bra a b c i h pc k m = cc
single_acts Rbra a b c i h pc k m = cc
single_acts Beq a b c i h pc k m = cc
single_acts Bne a b c i h pc k m = cc
single_acts Bgez a b c i h pc k m = cc
single_acts Bgtz a b c i h pc k m = cc
single_acts Blez a b c i h pc k m = cc
single_acts Bltz a b c i h pc k m = cc
single_acts Start a b c i h pc k m = cc
single_acts Finish a b c i h pc k m = cc
single_acts DataWord a b c i h pc k m = cc
single_acts _ a b c i h pc k m = refl

single_inverse : (op : Op) → is_single_op (inverse_op op) ≡ is_single_op op
single_inverse Add = refl
single_inverse _ = refl

single_faced : (d : Bool) (c : Cell) → is_single c ≡ true → is_single (faced d c) ≡ true
single_faced false c h = h
single_faced true c h = single_inverse c.op ∙ h

single_oriented : (flip : Bool) (c : Cell) → is_single c ≡ true → is_single (oriented flip c) ≡ true
single_oriented false c h = h
single_oriented true c h = single_inverse c.op ∙ h

own_op : (op : Op) → is_single_op op ≡ true → is_end_op op ≡ false
own_op Start h = cc
own_op Finish h = cc
own_op _ h = refl

pub single_own : (c : Cell) → is_single c ≡ true → is_end c ≡ false
single_own c h = own_op c.op h

level_op : (op : Op) → is_single_op op ≡ true → (rs : List ℕ) (d : ℕ) (s : State) → change_by op rs d s ≡ Same
level_op Swapbr h rs d s = cc
level_op _ h rs d s = refl

-- EXCH stops if there is no data cell; the others do not stop
abbrev pub stop_by : Bool → ℕ → Option Stop
stop_by t a = if t then None else Some (BadAddress a)

stop_op : (op : Op) (c : Cell) (s : State) → is_single_op op ≡ true
    → stop_in op c s ≡ stop_by (has_cell op c.b s) (slice_index s.regs c.b)
stop_op Exch c s h = refl
stop_op Swapbr c s h = cc
stop_op Bra c s h = cc
stop_op Rbra c s h = cc
stop_op Beq c s h = cc
stop_op Bne c s h = cc
stop_op Bgez c s h = cc
stop_op Bgtz c s h = cc
stop_op Blez c s h = cc
stop_op Bltz c s h = cc
stop_op Start c s h = cc
stop_op Finish c s h = cc
stop_op DataWord c s h = cc
stop_op _ c s h = refl

cell_op : (op : Op) (b : ℕ) (pc : ℤ) (k : Bool) (m : Memory)
    → has_cell op b (state pc 0 k m) ≡ has_cell op b (state (pos 0) 0 false m)
cell_op Exch b pc k m = refl
cell_op _ b pc k m = refl

cell_inverse : (op : Op) (b : ℕ) (s : State) → has_cell (inverse_op op) b s ≡ has_cell op b s
cell_inverse Add b s = refl
cell_inverse _ b s = refl

cell_oriented : (flip : Bool) (c : Cell) (s : State) → has_cell (oriented flip c).op c.b s ≡ has_cell c.op c.b s
cell_oriented false c s = refl
cell_oriented true c s = cell_inverse c.op c.b s

b_oriented : (flip : Bool) (c : Cell) → (oriented flip c).b ≡ c.b
b_oriented false c = refl
b_oriented true c = refl

-- whether there is the data cell that the instruction asks for
abbrev pub has_its_cell : Cell → Memory → Bool
has_its_cell c m = has_cell c.op c.b (state (pos 0) 0 false m)

pub single_stop : (flip k : Bool) (c : Cell) (m : Memory) (pc : ℤ) → is_single c ≡ true
    → stop_at (Some (oriented flip c)) (state pc 0 k m) ≡ stop_by (has_its_cell c m) (memory_reg m c.b)
single_stop flip k c m pc h =
    let s = state pc 0 k m in
    stop_op (oriented flip c).op (oriented flip c) s (single_oriented flip c h)
    ∙ ap (λ b. stop_by (has_cell (oriented flip c).op b s) (memory_reg m b)) (b_oriented flip c)
    ∙ ap (λ t. stop_by t (memory_reg m c.b)) (cell_oriented flip c s ∙ cell_op c.op c.b pc k m)

pub calm_single : (flip d : Bool) (c : Cell) (m : Memory) → is_single c ≡ true → c.imm < 2 ^ 32
    → has_its_cell c m ≡ true → Calm flip d c m (effect_along d c m)
calm_single flip d c m h w t =
    let x = faced d c in
    record {
      acts = λ pc. ap (λ (z : Cell). row_of z (state pc 0 (bool_xor flip d) m)) (faced_is flip d c w)
          ∙ single_acts x.op x.a x.b x.c x.imm (single_faced d c h) pc (bool_xor flip d) m;
      own = single_own (oriented flip c) (single_oriented flip c h);
      goes = λ pc. single_stop flip (bool_xor flip d) c m pc h ∙ ap (λ t. stop_by t (memory_reg m c.b)) t;
      level = λ rs pc. level_op (oriented flip c).op (single_oriented flip c h) rs (oriented flip c).a
          (state pc 0 (bool_xor flip d) m);
    }

-- the same of a cell as the machine has it
pub raw_way : (im : Image) (f : Frame) (d : Bool) (a b x : ℕ) (c : Cell) (m : Memory) → a ≤ x → x < b
    → fetch im.code (frame_address f x) ≡ Some c → is_single c ≡ true → has_its_cell c m ≡ true
    → Way im f d a b 1 (near d x) m (far d x) (effect_along (bool_xor f.flip d) c m)
raw_way im f d a b x c m lo hi h s t =
    let k = bool_xor f.flip d in
    let y = faced k c in
    let m' = effect_along k c m in
    let n : stop_at (Some c) (state (frame_address f x) 0 k m) ≡ None = single_stop false k c m (frame_address f x) s
    ∙ ap (λ t. stop_by t (memory_reg m c.b)) t in
    let p = one im f a b x c 0 0 k m m' (spot f.flip d f.base (far d x)) lo hi h n (single_own c s)
    (level_op c.op s im.routines c.a (state (frame_address f x) 0 k m))
    (single_acts y.op y.a y.b y.c y.imm (single_faced k c s) (frame_address f x) k m) (far_is f.flip d f.base x) in
    record {
      path = subst (λ z. Path im f a b 1 0 (state z 0 k m) 0 (at f d (far d x) m'))
          (sym (near_is f.flip d f.base x)) p;
    }
