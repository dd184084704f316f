-- A step met from its other end, as the flipped code makes it: where it leads, and where it stops.
use Rattle.std.proofs.Common.{◌≡◌, ◌≢◌, ◌∙◌, sym, ap, refl, ℕ, Bool, true, false, not, ◌&&◌, cond, List, length, ℤ}
use Rattle.std.proofs.Common.{Option, Some, None}
use Rattle.pisa_isa.specs.declared.cell.Op.{Op}
use Rattle.pisa_isa.specs.declared.cell.Op.TheVariants.{Exch, Start, Finish, DataWord}
use Rattle.pisa_isa.specs.declared.cell.Cell.{Cell}
use Rattle.pisa_isa.specs.declared.machine.Stop.{Stop}
use Rattle.pisa_isa.specs.declared.machine.Stop.TheVariants.{Finished, Returned, BadAddress}
use Rattle.pisa_isa.specs.Table.{IsCell, b_is_source, inverse_op, inverse_of}
use Rattle.pisa_isa.specs.Machine.{State, IsCode, IsState, turned_state, moved, effect, effect_at, is_zero_word, fetch}
use Rattle.pisa_isa.specs.Machine.{stop}
use Rattle.pisa_isa.specs.Machine.{stop_at, stop_in, next}
use Rattle.pisa_isa.specs.Image.{is_start_op, is_finish_op, is_start, is_finish}
use Rattle.pisa_isa.specs.Ends.{begins, begins_backward, cell_is}
use Rattle.pisa_isa.specs.Flipped.{flipped}
use Rattle.pisa_isa.proofs.Effect.{state, cell}
use Rattle.pisa_isa.proofs.Facing.{has_cell-from_none}
use Rattle.pisa_isa.proofs.Back.{Apart-cell, moved-twice, effect-pc, IsCell-fetch, next-reversed}
use Rattle.pisa_isa.proofs.CanUndo.{has_cell-effect}
use Rattle.pisa_isa.proofs.Mirror.{mirrored, fetch-flipped, next-mirror}

-- the state at the other end of the move that led here, facing the other way, in the flipped code
abbrev pub met : ℕ → State → State
met n m = mirrored n (moved (turned_state m))

-- a run neither begins nor begins backward as it stands
abbrev pub IsInside : List Cell → State → Type 0
IsInside code m = (begins code m ≡ false) × (begins_backward code m ≡ false)

-- what the step was made at

pub record MadeAt (code : List Cell) (m : State) : Type 0 where
  pub cell : Cell
  pub is_cell : IsCell cell
  pub there : fetch code m.pc ≡ Some cell
  pub goes : stop_in cell.op cell m ≡ None
  pub before : moved (turned_state (next code m)) ≡ turned_state (effect cell m)

made_at_cell : (code : List Cell) (m : State) (o : Option Cell) → fetch code m.pc ≡ o → IsCode code → stop_at o m ≡ None
    → MadeAt code m
made_at_cell code m None e k h = absurd (cc)
made_at_cell code m (Some c) e k h = record {
  cell = c;
  is_cell = IsCell-fetch code m.pc c k e;
  there = e;
  goes = h;
  before = ap (λ o. moved (turned_state (moved (effect_at o m)))) e ∙ moved-twice (effect c m);
}

pub made_at : (code : List Cell) (m : State) → IsCode code → stop code m ≡ None → MadeAt code m
made_at code m k h = made_at_cell code m (fetch code m.pc) refl k h

-- the flipped code has the inverse there
pub there_flipped : (code : List Cell) (m : State) (d : MadeAt code m)
    → fetch (flipped code) (met (length code) (next code m)).pc ≡ Some (inverse_of d.cell)
there_flipped code m d =
    fetch-flipped code (moved (turned_state (next code m))).pc d.cell
    (ap (λ s. fetch code s.pc) d.before ∙ ap (fetch code) (effect-pc d.cell m) ∙ d.there)

-- where it leads
pub next-met : (code : List Cell) (m : State) → IsCode code → IsState m → stop code m ≡ None
    → next (flipped code) (met (length code) (next code m)) ≡ met (length code) m
next-met code m k s h =
    let d = made_at code m k h in
    next-mirror code (moved (turned_state (next code m))) d.cell d.is_cell
    (ap (λ s. fetch code s.pc) d.before ∙ ap (fetch code) (effect-pc d.cell m) ∙ d.there)
    ∙ ap (mirrored (length code)) (next-reversed code m k s h)

-- where it stops

stop_from : (test : Bool) (e : Stop) → test ≡ false → cond test (Some e) None ≡ None
stop_from true e h = absurd (cc)
stop_from false e h = refl

cell_from : (test : Bool) (e : Stop) → test ≡ true → cond test None (Some e) ≡ None
cell_from true e h = refl
cell_from false e h = absurd (cc)

-- what a run that passes a cell needs of its state, to pass it the other way
pub record Passes (op : Op) (back : Bool) (br : ℕ) : Type 0 where
  pub not_at_start : is_start_op op ≡ true → (not back && is_zero_word br) ≡ false
  pub not_at_finish : is_finish_op op ≡ true → (back && is_zero_word br) ≡ false

stop_in-met : (op : Op) (a b c i n : ℕ) (pc : ℤ) (br : ℕ) (back : Bool) (regs cells : List ℕ) → Passes op back br
    → (b_is_source op ≡ true → b ≢ a)
    → stop_in op (cell op a b c i) (state pc br back regs cells) ≡ None
    → stop_in (inverse_op op) (inverse_of (cell op a b c i))
    (mirrored n (turned_state (effect (cell op a b c i) (state pc br back regs cells)))) ≡ None
stop_in-met Start a b c i n pc br true regs cells p ne h = refl
stop_in-met Start a b c i n pc br false regs cells p ne h = stop_from (is_zero_word br) Finished (p.not_at_start refl)
stop_in-met Finish a b c i n pc br true regs cells p ne h = stop_from (is_zero_word br) Returned (p.not_at_finish refl)
stop_in-met Finish a b c i n pc br false regs cells p ne h = refl
stop_in-met DataWord a b c i n pc br back regs cells p ne h = absurd (cc)
stop_in-met Exch a b c i n pc br true regs cells p ne h =
    cell_from _ (BadAddress _) (has_cell-effect Exch a b c i pc br true regs cells ne
    (has_cell-from_none Exch (cell Exch a b c i) (state pc br true regs cells) h))
stop_in-met Exch a b c i n pc br false regs cells p ne h =
    cell_from _ (BadAddress _) (has_cell-effect Exch a b c i pc br false regs cells ne
    (has_cell-from_none Exch (cell Exch a b c i) (state pc br false regs cells) h))
stop_in-met _ a b c i n pc br true regs cells p ne h = refl
stop_in-met _ a b c i n pc br false regs cells p ne h = refl

passes_of : (op : Op) (back : Bool) (br : ℕ) → ((is_start_op op && not back) && is_zero_word br) ≡ false
    → ((is_finish_op op && back) && is_zero_word br) ≡ false → Passes op back br
passes_of Start back br s f = record { not_at_start = λ _. s; not_at_finish = λ e. absurd (cc) }
passes_of Finish back br s f = record { not_at_start = λ e. absurd (cc); not_at_finish = λ _. f }
passes_of _ back br s f = record { not_at_start = λ e. absurd (cc); not_at_finish = λ e. absurd (cc) }

pub stop-met : (code : List Cell) (m : State) → IsCode code → stop code m ≡ None → IsInside code m
    → stop (flipped code) (met (length code) (next code m)) ≡ None
stop-met code m k h inside =
    let d = made_at code m k h in
    let c = d.cell in
    let passes = passes_of c.op m.back m.br (ap (λ o. (cell_is is_start o && not m.back) && is_zero_word m.br)
    (sym d.there)
    ∙ inside.0) (ap (λ o. (cell_is is_finish o && m.back) && is_zero_word m.br) (sym d.there) ∙ inside.1) in
    ap (λ o. stop_at o (met (length code) (next code m))) (there_flipped code m d)
    ∙ ap (λ s. stop_in (inverse_op c.op) (inverse_of c) (mirrored (length code) s)) d.before
    ∙ stop_in-met c.op c.a c.b c.c c.imm (length code) m.pc m.br m.back m.regs m.cells passes
    (Apart-cell c d.is_cell).from_b d.goes

-- the run of the flipped code is inside there

test_from : (test : Bool) (e : Stop) → cond test (Some e) None ≡ None → test ≡ false
test_from true e h = absurd (cc)
test_from false e h = refl

inside_in : (op : Op) (a b c i n : ℕ) (pc : ℤ) (br : ℕ) (back : Bool) (regs cells : List ℕ)
    → stop_in op (cell op a b c i) (state pc br back regs cells) ≡ None
    → let s = mirrored n (turned_state (effect (cell op a b c i) (state pc br back regs cells))) in
    (((is_start_op (inverse_op op) && not s.back) && is_zero_word s.br) ≡ false)
    × (((is_finish_op (inverse_op op) && s.back) && is_zero_word s.br) ≡ false)
inside_in Start a b c i n pc br true regs cells h = (refl, test_from (is_zero_word br) Returned h)
inside_in Start a b c i n pc br false regs cells h = (refl, refl)
inside_in Finish a b c i n pc br true regs cells h = (refl, refl)
inside_in Finish a b c i n pc br false regs cells h = (test_from (is_zero_word br) Finished h, refl)
inside_in _ a b c i n pc br true regs cells h = (refl, refl)
inside_in _ a b c i n pc br false regs cells h = (refl, refl)

pub IsInside-met : (code : List Cell) (m : State) → IsCode code → stop code m ≡ None
    → IsInside (flipped code) (met (length code) (next code m))
IsInside-met code m k h =
    let d = made_at code m k h in
    let c = d.cell in
    let n = length code in
    let inside = inside_in c.op c.a c.b c.c c.imm n m.pc m.br m.back m.regs m.cells d.goes in
    let there = there_flipped code m d in (
      ap (λ o. (cell_is is_start o && not (met n (next code m)).back) && is_zero_word (met n (next code m)).br) there
          ∙ ap (λ s. (is_start_op (inverse_op c.op) && not (mirrored n s).back) && is_zero_word (mirrored n s).br)
          d.before
          ∙ inside.0,
      ap (λ o. (cell_is is_finish o && (met n (next code m)).back) && is_zero_word (met n (next code m)).br) there
          ∙ ap (λ s. (is_finish_op (inverse_op c.op) && (mirrored n s).back) && is_zero_word (mirrored n s).br) d.before
          ∙ inside.1,
    )
