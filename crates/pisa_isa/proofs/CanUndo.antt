-- What stepping back needs, if a step led here.
use Rattle.std.proofs.Common.{◌≡◌, ◌≢◌, ◌∙◌, sym, ap, refl, ℕ, ◌^◌, ◌<◌, Bool, true, false, not, arith, List}
use Rattle.std.proofs.Common.{length, get_or, ℤ, pos, negsuc, ◌+ℤ◌, ◌≤ℤ◌, ◌<ℤ◌, Option, Some, None, length-set}
use Rattle.std.proofs.lemmas.List.{get_or-set_other}
use Rattle.std.proofs.lemmas.List.Elements.{All-get_or}
use Rattle.std.proofs.lemmas.Option.{slice_get_within}
use Rattle.std.proofs.lemmas.Bool.Decides.{nat_tests}
use Rattle.std.proofs.lemmas.Int.{ints}
use Rattle.rpp_words.specs.Words.{IsWord}
use Rattle.pisa_isa.specs.declared.cell.Op.{Op}
use Rattle.pisa_isa.specs.declared.cell.Op.TheVariants.{Exch, Swapbr, Bra, Rbra, Beq, Bne, Bgez, Bgtz, Blez, Bltz}
use Rattle.pisa_isa.specs.declared.cell.Cell.{Cell}
use Rattle.pisa_isa.specs.Table.{IsCell, b_is_source}
use Rattle.pisa_isa.proofs.Ranges.{a_below}
use Rattle.pisa_isa.specs.Machine.{State, IsState, IsCode, IsNext, turned_state, moved, place_moved, stride, effect}
use Rattle.pisa_isa.specs.Machine.{effect_at, row, row_of, faced, has_cell, fetch, is_taken, stop_at, next, back}
use Rattle.pisa_isa.proofs.Facing.{has_cell-from_none, IsCell-faced}
use Rattle.pisa_isa.proofs.Effect.{state, cell}
use Rattle.pisa_isa.proofs.Back.{Apart-cell, moved-twice, effect-pc, IsCell-fetch}
use Rattle.rpp_words.proofs.Ranges.{by_test}
use Rattle.pisa_isa.specs.declared.image.TheConstants.{MOST_CELLS}

-- the step that led here was made at this cell
pub record CameBy (code : List Cell) (m : State) : Type 0 where
  pub cell : Cell
  pub is_cell : IsCell cell
  pub low : pos 0 ≤ℤ (m.pc +ℤ pos (2 ^ 32))
  pub high : m.pc ≤ℤ pos (2 ^ 32)
  pub there : fetch code (moved (turned_state m)).pc ≡ Some cell
  pub found : has_cell cell.op cell.b (moved (turned_state m)) ≡ true

-- how far a move goes
stride_bounds : (br : ℕ) → br < 2 ^ 32 → (pos 0 ≤ℤ (stride br +ℤ pos (2 ^ 31))) × (stride br ≤ℤ pos (2 ^ 31))
stride_bounds br h = (grind (arith, ints, nat_tests), grind (arith, ints, nat_tests))

row-br : (op : Op) (a b c i : ℕ) (m : State) → IsState m → a < 32 → (row op a b c i m).br < 2 ^ 32
row-br Swapbr a b c i m s h = All-get_or IsWord m.regs a 0 (omega (arith, s.count)) s.words
row-br Rbra a b c i m s h = omega arith
row-br Bra a b c i m s h = omega arith
row-br Beq a b c i m s h = by_test (is_taken Beq (get_or m.regs a 0) (get_or m.regs b 0)) _ _ (omega arith) s.br_word
row-br Bne a b c i m s h = by_test (is_taken Bne (get_or m.regs a 0) (get_or m.regs b 0)) _ _ (omega arith) s.br_word
row-br Bgez a b c i m s h = by_test (is_taken Bgez (get_or m.regs a 0) (get_or m.regs b 0)) _ _ (omega arith)
    s.br_word
row-br Bgtz a b c i m s h = by_test (is_taken Bgtz (get_or m.regs a 0) (get_or m.regs b 0)) _ _ (omega arith)
    s.br_word
row-br Blez a b c i m s h = by_test (is_taken Blez (get_or m.regs a 0) (get_or m.regs b 0)) _ _ (omega arith)
    s.br_word
row-br Bltz a b c i m s h = by_test (is_taken Bltz (get_or m.regs a 0) (get_or m.regs b 0)) _ _ (omega arith)
    s.br_word
row-br _ a b c i m s h = s.br_word

pub effect-br : (c : Cell) (m : State) → IsCell c → IsState m → (effect c m).br < 2 ^ 32
effect-br c m k s = let d = faced m.back c in row-br d.op d.a d.b d.c d.imm m s
    (a_below d (IsCell-faced m.back c k).in_range)

place_moved_bounds : (b : Bool) (p : ℤ) (br : ℕ) → br < 2 ^ 32 → pos 0 ≤ℤ p → p ≤ℤ pos MOST_CELLS
    → (pos 0 ≤ℤ (place_moved b p br +ℤ pos (2 ^ 32))) × (place_moved b p br ≤ℤ pos (2 ^ 32))
place_moved_bounds true p br h low high = let s = stride_bounds br h in (omega (arith, ints), omega (arith, ints))
place_moved_bounds false p br h low high = let s = stride_bounds br h in (omega (arith, ints), omega (arith, ints))

fetch_place : (code : List Cell) (p : ℤ) (c : Cell) → fetch code p ≡ Some c → (pos 0 ≤ℤ p) × (p <ℤ pos (length code))
fetch_place code (pos n) c e = let h = slice_get_within code n c e in (omega (arith, ints), omega (arith, ints))
fetch_place code (negsuc n) c e = absurd (cc)

-- an EXCH still has its cell afterwards
pub has_cell-effect : (op : Op) (a b c i : ℕ) (pc : ℤ) (br : ℕ) (back : Bool) (regs cells : List ℕ)
    → (b_is_source op ≡ true → b ≢ a) → has_cell op b (state pc br back regs cells) ≡ true
    → has_cell op b (turned_state (effect (cell op a b c i) (state pc br back regs cells))) ≡ true
has_cell-effect Exch a b c i pc br true regs cells ne h =
    rw (
      get_or-set_other regs a b (get_or cells (get_or regs b 0) 0) 0 (ne refl),
      length-set cells (get_or regs b 0) (get_or regs a 0),
    ) h
has_cell-effect Exch a b c i pc br false regs cells ne h =
    rw (
      get_or-set_other regs a b (get_or cells (get_or regs b 0) 0) 0 (ne refl),
      length-set cells (get_or regs b 0) (get_or regs a 0),
    ) h
has_cell-effect _ a b c i pc br back regs cells ne h = refl

came_at : (code : List Cell) (m s : State) (o : Option Cell) → IsCode code → IsState s → fetch code s.pc ≡ o
    → stop_at o s ≡ None → m ≡ next code s → CameBy code m
came_at code m s None k ok e h n = absurd (cc)
came_at code m s (Some c) k ok e h n =
    let is_cell : IsCell c = IsCell-fetch code s.pc c k e in
    let is : m ≡ moved (effect c s) = n ∙ ap (λ o. moved (effect_at o s)) e in
    let before : moved (turned_state m) ≡ turned_state (effect c s) = ap (λ x. moved (turned_state x)) is
    ∙ moved-twice (effect c s) in
    let at = fetch_place code s.pc c e in
    let limit = k.in_limit in
    let high : s.pc ≤ℤ pos MOST_CELLS = omega (arith, ints) in
    let bounds = place_moved_bounds (effect c s).back s.pc (effect c s).br (effect-br c s is_cell ok) at.0 high in
    let pc_is : m.pc ≡ place_moved (effect c s).back s.pc (effect c s).br =
    ap (λ x. x.pc) is ∙ ap (λ p. place_moved (effect c s).back p (effect c s).br) (effect-pc c s) in
    record {
      cell = c;
      is_cell = is_cell;
      low = rw pc_is bounds.0;
      high = rw pc_is bounds.1;
      there = ap (λ x. fetch code x.pc) before ∙ ap (fetch code) (effect-pc c s) ∙ e;
      found = ap (has_cell c.op c.b) before
          ∙ has_cell-effect c.op c.a c.b c.c c.imm s.pc s.br s.back s.regs s.cells (Apart-cell c is_cell).from_b
          (has_cell-from_none c.op c s h);
    }

pub came_by : (code : List Cell) (m : State) → IsCode code → IsNext code m → CameBy code m
came_by code m k n = came_at code m (back code m) (fetch code (back code m).pc) k n.is_state refl n.goes n.comes

-- stepping back in one go: the effect for the other direction at the machine's code address, and
-- then the code address before

row-apart : (op : Op) (a b c i : ℕ) (pc p : ℤ) (br : ℕ) (back : Bool) (regs cells : List ℕ)
    → record (row op a b c i (state pc br back regs cells)) { pc = p }
    ≡ turned_state (row op a b c i (state p br (not back) regs cells))
row-apart Rbra a b c i pc p br true regs cells = refl
row-apart Rbra a b c i pc p br false regs cells = refl
row-apart _ a b c i pc p br true regs cells = refl
row-apart _ a b c i pc p br false regs cells = refl

effect-apart : (c : Cell) (m : State) → record (row_of (faced (not m.back) c) m) { pc = (moved (turned_state m)).pc }
    ≡ turned_state (effect c (moved (turned_state m)))
effect-apart c m = let d = faced (not m.back) c in row-apart d.op d.a d.b d.c d.imm m.pc (moved (turned_state m)).pc
    m.br
    m.back m.regs m.cells

pub stepped_back : (code : List Cell) (m : State) (c : Cell) (s : State) (p : ℤ)
    → fetch code (moved (turned_state m)).pc ≡ Some c
    → s ≡ row_of (faced (not m.back) c) m → p ≡ (moved (turned_state m)).pc → record s { pc = p } ≡ back code m
stepped_back code m c s p there acts place =
    let u : State = moved (turned_state m) in
    ap (λ s. state p s.br s.back s.regs s.cells) acts
    ∙ ap (λ p. record (row_of (faced (not m.back) c) m) { pc = p }) place
    ∙ effect-apart c m
    ∙ sym (ap (λ o. turned_state (effect_at o u)) there)

has_cell-apart : (op : Op) (s : ℕ) (m : State) → has_cell op s (moved (turned_state m)) ≡ has_cell op s m
has_cell-apart Exch s m = refl
has_cell-apart _ s m = refl

pub has_cell-before : (c : Cell) (m : State) → has_cell c.op c.b (moved (turned_state m)) ≡ true
    → has_cell c.op c.b m ≡ true
has_cell-before c m h = sym (has_cell-apart c.op c.b m) ∙ h
