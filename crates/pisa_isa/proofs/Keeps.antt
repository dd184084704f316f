-- A step leads from words to words.
use Rattle.std.proofs.Common.{◌≡◌, ◌∙◌, sym, ap, subst, refl, ℕ, zero, suc, ◌+◌, ◌^◌, ◌<◌, Bool, true, false, cond}
use Rattle.std.proofs.Common.{arith, List, length, get_or, set, Option, Some, None, length-set}
use Rattle.std.proofs.lemmas.List.Elements.{All-get_or, All-set}
use Rattle.std.proofs.lemmas.Nat.{or_of_32, xor_of_32}
use Rattle.std.proofs.lemmas.Option.{same_Some}
use Rattle.std.proofs.lemmas.Bool.Decides.{nat_tests}
use Rattle.rpp_words.specs.Words.{IsWord, is_less}
use Rattle.rpp_words.proofs.Ranges.{bit_and-lt, shifted_left-lt, shifted_right-lt, shifted_right_signed-lt}
use Rattle.rpp_words.proofs.Ranges.{turned_left-lt, turned_right-lt}
use Rattle.pisa_isa.specs.declared.cell.Op.{Op}
use Rattle.pisa_isa.specs.declared.cell.Op.TheVariants.{Add, Sub, Xor, Neg, Addi, Xori, Rl, Rr, Rlv, Rrv, Andx, Orx}
use Rattle.pisa_isa.specs.declared.cell.Op.TheVariants.{Norx, Sltx, Andix, Orix, Sllx, Srlx, Srax, Sllvx, Srlvx, Sravx}
use Rattle.pisa_isa.specs.declared.cell.Op.TheVariants.{Exch, Swapbr, Bra, Rbra, Beq, Bne, Bgez, Bgtz, Blez, Bltz}
use Rattle.pisa_isa.specs.declared.cell.Op.TheVariants.{Start, Finish, DataWord}
use Rattle.pisa_isa.specs.declared.cell.Cell.{Cell}
use Rattle.pisa_isa.specs.declared.machine.Stop.{Stop}
use Rattle.pisa_isa.specs.Table.{IsCell, new_value}
use Rattle.pisa_isa.proofs.Ranges.{a_below, b_below, c_below, imm_word}
use Rattle.pisa_isa.specs.Machine.{State, IsState, IsCode, IsNext, effect, row, faced, has_cell, fetch, stop, stop_at}
use Rattle.pisa_isa.specs.Machine.{next, back}
use Rattle.pisa_isa.specs.Runs.{steps, unless_stop, then_state, back_by, IsReached}
use Rattle.pisa_isa.proofs.Runs.{steps-add}
use Rattle.pisa_isa.proofs.Facing.{has_cell-from_none, has_cell-faced, IsCell-faced}
use Rattle.pisa_isa.proofs.CanUndo.{effect-br}
use Rattle.pisa_isa.proofs.Back.{IsCell-fetch, back-next}

word_of-lt : (t : Bool) → cond t 1 0 < 2 ^ 32
word_of-lt true = omega arith
word_of-lt false = omega arith

pub new_value-lt : (op : Op) (x y z i : ℕ) → x < 2 ^ 32 → y < 2 ^ 32 → z < 2 ^ 32 → i < 2 ^ 32
    → new_value op x y z i < 2 ^ 32
new_value-lt Add x y z i hx hy hz hi = omega arith
new_value-lt Sub x y z i hx hy hz hi = omega arith
new_value-lt Xor x y z i hx hy hz hi = xor_of_32 x y hx hy
new_value-lt Neg x y z i hx hy hz hi = omega arith
new_value-lt Addi x y z i hx hy hz hi = omega arith
new_value-lt Xori x y z i hx hy hz hi = xor_of_32 x i hx hi
new_value-lt Rl x y z i hx hy hz hi = turned_left-lt x i hx
new_value-lt Rr x y z i hx hy hz hi = turned_right-lt x i hx
new_value-lt Rlv x y z i hx hy hz hi = turned_left-lt x y hx
new_value-lt Rrv x y z i hx hy hz hi = turned_right-lt x y hx
new_value-lt Andx x y z i hx hy hz hi = xor_of_32 x _ hx (bit_and-lt y z hy)
new_value-lt Orx x y z i hx hy hz hi = xor_of_32 x _ hx (or_of_32 y z hy hz)
new_value-lt Norx x y z i hx hy hz hi = xor_of_32 x _ hx (omega arith)
new_value-lt Sltx x y z i hx hy hz hi = xor_of_32 x _ hx (word_of-lt (is_less y z))
new_value-lt Andix x y z i hx hy hz hi = xor_of_32 x _ hx (bit_and-lt y i hy)
new_value-lt Orix x y z i hx hy hz hi = xor_of_32 x _ hx (or_of_32 y i hy hi)
new_value-lt Sllx x y z i hx hy hz hi = xor_of_32 x _ hx (shifted_left-lt y i)
new_value-lt Srlx x y z i hx hy hz hi = xor_of_32 x _ hx (shifted_right-lt y i hy)
new_value-lt Srax x y z i hx hy hz hi = xor_of_32 x _ hx (shifted_right_signed-lt y i hy)
new_value-lt Sllvx x y z i hx hy hz hi = xor_of_32 x _ hx (shifted_left-lt y z)
new_value-lt Srlvx x y z i hx hy hz hi = xor_of_32 x _ hx (shifted_right-lt y z hy)
new_value-lt Sravx x y z i hx hy hz hi = xor_of_32 x _ hx (shifted_right_signed-lt y z hy)
new_value-lt _ x y z i hx hy hz hi = hx

-- the registers and cells of a row
record AreWords (m : State) : Type 0 where
  count : length m.regs ≡ 32
  words : (k d : ℕ) → k < length m.regs → get_or m.regs k d < 2 ^ 32
  cell_words : (k d : ℕ) → k < length m.cells → get_or m.cells k d < 2 ^ 32

word_at : (m : State) (r : ℕ) → IsState m → r < 32 → get_or m.regs r 0 < 2 ^ 32
word_at m r s h = All-get_or IsWord m.regs r 0 (omega (arith, s.count)) s.words

with_word : (m : State) (a w : ℕ) → IsState m → w < 2 ^ 32
    → (length (set m.regs a w) ≡ 32) × ((k d : ℕ) → k < length (set m.regs a w) → get_or (set m.regs a w) k d < 2 ^ 32)
with_word m a w s h = (length-set m.regs a w ∙ s.count, All-set IsWord m.regs a w h s.words)

row-words : (op : Op) (a b c i : ℕ) (m : State) → IsState m → a < 32 → b < 32 → c < 32 → i < 2 ^ 32
    → has_cell op b m ≡ true → AreWords (row op a b c i m)
row-words Exch a b c i m s ha hb hc hi h =
    let within : get_or m.regs b 0 < length m.cells = grind (arith, nat_tests) in
    let w = All-get_or IsWord m.cells (get_or m.regs b 0) 0 within s.cell_words in
    let r = with_word m a (get_or m.cells (get_or m.regs b 0) 0) s w in
    record {
      count = r.0;
      words = r.1;
      cell_words = All-set IsWord m.cells (get_or m.regs b 0) (get_or m.regs a 0)
          (word_at m a s ha) s.cell_words;
    }
row-words Swapbr a b c i m s ha hb hc hi h =
    let r = with_word m a m.br s s.br_word in record { count = r.0; words = r.1; cell_words = s.cell_words }
row-words Rbra a b c i m s ha hb hc hi h = record { count = s.count; words = s.words; cell_words = s.cell_words }
row-words Bra a b c i m s ha hb hc hi h = record { count = s.count; words = s.words; cell_words = s.cell_words }
row-words Beq a b c i m s ha hb hc hi h = record { count = s.count; words = s.words; cell_words = s.cell_words }
row-words Bne a b c i m s ha hb hc hi h = record { count = s.count; words = s.words; cell_words = s.cell_words }
row-words Bgez a b c i m s ha hb hc hi h = record { count = s.count; words = s.words; cell_words = s.cell_words }
row-words Bgtz a b c i m s ha hb hc hi h = record { count = s.count; words = s.words; cell_words = s.cell_words }
row-words Blez a b c i m s ha hb hc hi h = record { count = s.count; words = s.words; cell_words = s.cell_words }
row-words Bltz a b c i m s ha hb hc hi h = record { count = s.count; words = s.words; cell_words = s.cell_words }
row-words Start a b c i m s ha hb hc hi h = record { count = s.count; words = s.words; cell_words = s.cell_words }
row-words Finish a b c i m s ha hb hc hi h = record { count = s.count; words = s.words; cell_words = s.cell_words }
row-words DataWord a b c i m s ha hb hc hi h = record { count = s.count; words = s.words; cell_words = s.cell_words }
row-words op a b c i m s ha hb hc hi h =
    let v = new_value-lt op (get_or m.regs a 0) (get_or m.regs b 0) (get_or m.regs c 0) i (word_at m a s ha)
    (word_at m b s hb) (word_at m c s hc) hi in
    let r = with_word m a (new_value op (get_or m.regs a 0) (get_or m.regs b 0) (get_or m.regs c 0) i) s v in
    record { count = r.0; words = r.1; cell_words = s.cell_words }

effect-IsState : (c : Cell) (m : State) → IsCell c → IsState m → has_cell c.op c.b m ≡ true → IsState (effect c m)
effect-IsState c m k s h =
    let d = faced m.back c in
    let e = (IsCell-faced m.back c k).in_range in
    let w = row-words d.op d.a d.b d.c d.imm m s (a_below d e) (b_below d e) (c_below d e) (imm_word d e)
    (has_cell-faced m.back c m ∙ h) in
    record { br_word = effect-br c m k s; count = w.count; words = w.words; cell_words = w.cell_words }

keeps_at : (code : List Cell) (m : State) (o : Option Cell) → fetch code m.pc ≡ o → IsCode code → IsState m
    → stop_at o m ≡ None → IsState (next code m)
keeps_at code m None e k s h = absurd (cc)
keeps_at code m (Some c) e k s h =
    let t = effect-IsState c m (IsCell-fetch code m.pc c k e) s (has_cell-from_none c.op c m h) in
    rw e (record { br_word = t.br_word; count = t.count; words = t.words; cell_words = t.cell_words })

pub next-IsState : (code : List Cell) (m : State) → IsCode code → IsState m → stop code m ≡ None → IsState (next code m)
next-IsState code m k s h = keeps_at code m (fetch code m.pc) refl k s h

-- a run that goes on made its first step
pub first_step : (o : Option Stop) (rest : Option State) (e : State) → unless_stop o rest ≡ Some e
    → (o ≡ None) × (rest ≡ Some e)
first_step None rest e h = (refl, h)
first_step (Some why) rest e h = absurd (cc)

pub steps-IsState : (code : List Cell) (n : ℕ) (m e : State) → IsCode code → IsState m → steps code n m ≡ Some e
    → IsState e
steps-IsState code zero m e k s h = subst IsState (same_Some m e h) s
steps-IsState code (suc n) m e k s h =
    let f = first_step (stop code m) (steps code n (next code m)) e h in
    steps-IsState code n (next code m) e k (next-IsState code m k s f.0) f.1

-- a step from a state leads to one that it can be stepped back from
pub IsNext-next : (code : List Cell) (d m : State) → IsCode code → IsState d → stop code d ≡ None → m ≡ next code d
    → IsNext code m
IsNext-next code d m k s h e =
    let b : back code m ≡ d = ap (back code) e ∙ back-next code d k s h in
    record { is_state = subst IsState (sym b) s; goes = ap (stop code) b ∙ h; comes = e ∙ ap (next code) (sym b) }

-- the last of n + 1 steps
pub last_step : (code : List Cell) (n : ℕ) (m e : State) → IsCode code → IsState m → steps code (suc n) m ≡ Some e
    → (steps code n m ≡ Some (back code e)) × IsNext code e
last_step code zero m e k s h =
    let f = first_step (stop code m) (Some (next code m)) e h in
    let is : e ≡ next code m = sym (same_Some (next code m) e f.1) in
    (ap (λ x. Some x) (sym (ap (back code) is ∙ back-next code m k s f.0)), IsNext-next code m e k s f.0 is)
last_step code (suc n) m e k s h =
    let f = first_step (stop code m) (steps code (suc n) (next code m)) e h in
    let r = last_step code n (next code m) e k (next-IsState code m k s f.0) f.1 in
    (ap (λ o. unless_stop o (steps code n (next code m))) f.0 ∙ r.0, r.1)

-- n steps back from where n steps lead
pub back_by-steps : (code : List Cell) (n : ℕ) (m e : State) → IsCode code → IsState m → steps code n m ≡ Some e
    → back_by code n e ≡ m
back_by-steps code zero m e k s h = sym (same_Some m e h)
back_by-steps code (suc n) m e k s h = let r = last_step code n m e k s h in
    back_by-steps code n m (back code e) k s r.0

-- a position that is reached: the one before, and the one after

pub reached_next : (code : List Cell) (n : ℕ) (m : State) → IsCode code → IsReached code (suc n) m → IsNext code m
reached_next code n m k r = (last_step code n (back_by code (suc n) m) m k r.is_state r.reaches).1

pub reached_before : (code : List Cell) (n : ℕ) (m : State) → IsCode code → IsReached code (suc n) m
    → IsReached code n (back code m)
reached_before code n m k r = record {
  is_state = r.is_state;
  reaches = (last_step code n (back_by code (suc n) m) m k r.is_state r.reaches).0;
}

steps_more : (code : List Cell) (n : ℕ) (f m : State) → steps code n f ≡ Some m → stop code m ≡ None
    → steps code (suc n) f ≡ Some (next code m)
steps_more code n f m h none =
    let e : suc n ≡ n + 1 = omega arith in
    let one : steps code 1 m ≡ Some (next code m) = ap (λ o. unless_stop o (Some (next code m))) none in
    ap (λ k. steps code k f) e ∙ steps-add code n 1 f ∙ ap (λ o. then_state o (steps code 1)) h ∙ one

pub reached_after : (code : List Cell) (n : ℕ) (m : State) → IsCode code → IsReached code n m → stop code m ≡ None
    → IsReached code (suc n) (next code m)
reached_after code n m k r h =
    let b : back code (next code m) ≡ m = back-next code m k
    (steps-IsState code n (back_by code n m) m k r.is_state r.reaches) h in
    let first : back_by code n (back code (next code m)) ≡ back_by code n m = ap (back_by code n) b in
    record {
      is_state = subst IsState (sym first) r.is_state;
      reaches = ap (steps code (suc n)) first ∙ steps_more code n (back_by code n m) m r.reaches h;
    }
