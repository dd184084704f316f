-- Stepping back undoes a step that is no stop.
use Rattle.std.proofs.Common.{◌≡◌, ◌≢◌, ◌∙◌, ap, subst, refl, ℕ, Bool, true, false, not, ◌&&◌, cond, arith, List, ℤ}
use Rattle.std.proofs.Common.{pos, negsuc, ◌+ℤ◌, ◌-ℤ◌, Option, Some, None, nat_eq}
use Rattle.std.proofs.lemmas.List.Elements.{All-get_or}
use Rattle.std.proofs.lemmas.Option.{slice_get_within, get_or_from_slice_get}
use Rattle.std.proofs.lemmas.Bool.Decides.{nat_tests}
use Rattle.std.proofs.lemmas.Int.{ints}
use Rattle.rpp_words.specs.Words.{IsWord}
use Rattle.pisa_isa.specs.declared.cell.Op.{Op}
use Rattle.pisa_isa.specs.declared.cell.Op.TheVariants.{Exch, Add}
use Rattle.pisa_isa.specs.declared.cell.Cell.{Cell}
use Rattle.pisa_isa.specs.Table.{IsCell, b_is_source, c_is_source}
use Rattle.pisa_isa.proofs.Ranges.{a_below, b_below, imm_word}
use Rattle.pisa_isa.specs.Machine.{State, IsState, IsCode, turned_state, moved, place_moved, stride, effect, effect_at, row}
use Rattle.pisa_isa.specs.Machine.{faced, has_cell, fetch, stop, stop_at, next, back}
use Rattle.pisa_isa.proofs.Undo.{Apart}
use Rattle.pisa_isa.proofs.Facing.{has_cell-from_none}
use Rattle.pisa_isa.proofs.Effect.{Fits, effect-twice, state}

-- moves

there_and_back : (p k : ℤ) → (p +ℤ k) -ℤ k ≡ p
there_and_back p k = omega (arith, ints)

back_and_there : (p k : ℤ) → (p -ℤ k) +ℤ k ≡ p
back_and_there p k = omega (arith, ints)

place_moved-twice : (b : Bool) (p : ℤ) (br : ℕ) → place_moved (not b) (place_moved b p br) br ≡ p
place_moved-twice true p br = back_and_there p (stride br)
place_moved-twice false p br = there_and_back p (stride br)

pub moved-twice : (m : State) → moved (turned_state (moved m)) ≡ turned_state m
moved-twice m = ap (λ p. state p m.br (not m.back) m.regs m.cells) (place_moved-twice m.back m.pc m.br)

pub not-not : (b : Bool) → not (not b) ≡ b
not-not true = refl
not-not false = refl

pub turned-twice : (m : State) → turned_state (turned_state m) ≡ m
turned-twice m = ap (λ b. state m.pc m.br b m.regs m.cells) (not-not m.back)

-- the effect leaves the place

row-pc : (op : Op) (a b c i : ℕ) (m : State) → (row op a b c i m).pc ≡ m.pc
row-pc Add a b c i m = refl
row-pc _ a b c i m = refl

pub effect-pc : (c : Cell) (m : State) → (effect c m).pc ≡ m.pc
effect-pc c m = let d = faced m.back c in row-pc d.op d.a d.b d.c d.imm m

-- what a cell and a state are to each other

both_left : (p q : Bool) → (p && q) ≡ true → p ≡ true
both_left true q e = refl
both_left false q e = cc

both_right : (p q : Bool) → (p && q) ≡ true → q ≡ true
both_right true q e = e
both_right false q e = cc

source_apart : (p : Bool) (a b : ℕ) → cond p (not (nat_eq a b)) true ≡ true → p ≡ true → b ≢ a
source_apart true a b e t = grind (arith, nat_tests)
source_apart false a b e t = cc

apart_by : (p q : Bool) (a b c : ℕ) → (cond p (not (nat_eq a b)) true && cond q (not (nat_eq a c)) true) ≡ true
    → (p ≡ true → b ≢ a) × (q ≡ true → c ≢ a)
apart_by p q a b c e = (source_apart p a b (both_left _ _ e), source_apart q a c (both_right _ _ e))

pub Apart-cell : (c : Cell) → IsCell c → Apart c.op c.a c.b c.c
Apart-cell c k =
    let apart = apart_by (b_is_source c.op) (c_is_source c.op) c.a c.b c.c k.one_to_one in
    record { from_b = apart.0; from_c = apart.1 }

found_anyhow : (op : Op) (b br : ℕ) (regs cells : List ℕ) (pc : ℤ) (back : Bool)
    → has_cell op b (state pc br back regs cells) ≡ true
    → (p : ℤ) (d : Bool) → has_cell op b (state p br d regs cells) ≡ true
found_anyhow Exch b br regs cells pc back h p d = h
found_anyhow _ b br regs cells pc back h p d = refl

fits : (c : Cell) (m : State) → IsCell c → IsState m → has_cell c.op c.b m ≡ true
    → Fits c.op c.a c.b c.c c.imm m.br m.regs m.cells
fits c m k s h =
    record {
      a_in = omega (arith, a_below c k.in_range, s.count);
      a_word = All-get_or IsWord m.regs c.a 0 (omega (arith, a_below c k.in_range, s.count)) s.words;
      b_word = All-get_or IsWord m.regs c.b 0 (omega (arith, b_below c k.in_range, s.count)) s.words;
      i_word = imm_word c k.in_range;
      br_word = s.br_word;
      apart = Apart-cell c k;
      found = found_anyhow c.op c.b m.br m.regs m.cells m.pc m.back h;
    }

pub effect_undone : (c : Cell) (m : State) → IsCell c → IsState m → has_cell c.op c.b m ≡ true
    → effect c (turned_state (effect c m)) ≡ turned_state m
effect_undone c m k s h = effect-twice c.op c.a c.b c.c c.imm m.pc m.br m.back m.regs m.cells (fits c m k s h)

pub IsCell-fetch : (code : List Cell) (p : ℤ) (c : Cell) → IsCode code → fetch code p ≡ Some c → IsCell c
IsCell-fetch code (pos n) c k e = subst IsCell (get_or_from_slice_get code n c c e)
    (All-get_or IsCell code n c (slice_get_within code n c e) k.cells)
IsCell-fetch code (negsuc n) c k e = absurd (cc)

-- back after next

undo_at : (code : List Cell) (m : State) (o : Option Cell) → fetch code m.pc ≡ o → IsCode code → IsState m
    → stop_at o m ≡ None → back code (next code m) ≡ m
undo_at code m None e k s h = absurd (cc)
undo_at code m (Some c) e k s h =
    let next_is : next code m ≡ moved (effect c m) = ap (λ o. moved (effect_at o m)) e in
    let before : moved (turned_state (next code m)) ≡ turned_state (effect c m) = ap (λ x. moved (turned_state x)) next_is
    ∙ moved-twice (effect c m) in
    let there : fetch code (turned_state (effect c m)).pc ≡ Some c = ap (fetch code) (effect-pc c m) ∙ e in
    ap (λ u. turned_state (effect_at (fetch code u.pc) u)) before
    ∙ ap (λ o. turned_state (effect_at o (turned_state (effect c m)))) there
    ∙ ap turned_state (effect_undone c m (IsCell-fetch code m.pc c k e) s (has_cell-from_none c.op c m h))
    ∙ turned-twice m

pub back-next : (code : List Cell) (m : State) → IsCode code → IsState m → stop code m ≡ None
    → back code (next code m) ≡ m
back-next code m k s h = undo_at code m (fetch code m.pc) refl k s h

-- a step that is no stop, met from its other end, leads to the state met from its other end
reversed_at : (code : List Cell) (m : State) (o : Option Cell) → fetch code m.pc ≡ o → IsCode code → IsState m
    → stop_at o m ≡ None
    → next code (moved (turned_state (next code m))) ≡ moved (turned_state m)
reversed_at code m None e k s h = absurd (cc)
reversed_at code m (Some c) e k s h =
    let next_is : next code m ≡ moved (effect c m) = ap (λ o. moved (effect_at o m)) e in
    let before : moved (turned_state (next code m)) ≡ turned_state (effect c m) = ap (λ x. moved (turned_state x)) next_is
    ∙ moved-twice (effect c m) in
    let there : fetch code (turned_state (effect c m)).pc ≡ Some c = ap (fetch code) (effect-pc c m) ∙ e in
    ap (next code) before
    ∙ ap (λ o. moved (effect_at o (turned_state (effect c m)))) there
    ∙ ap moved (effect_undone c m (IsCell-fetch code m.pc c k e) s (has_cell-from_none c.op c m h))

pub next-reversed : (code : List Cell) (m : State) → IsCode code → IsState m → stop code m ≡ None
    → next code (moved (turned_state (next code m))) ≡ moved (turned_state m)
next-reversed code m k s h = reversed_at code m (fetch code m.pc) refl k s h
