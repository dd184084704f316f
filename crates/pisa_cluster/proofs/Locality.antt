-- A step depends on the common cells only by the one that it touches, and changes no other.
use Rattle.std.proofs.Common.{◌≡◌, ◌≢◌, ◌∙◌, sym, ap, ap₂, refl, ℕ, ℤ, Bool, true, false, nat_eq, nat_lt, List, length}
use Rattle.std.proofs.Common.{slice_set, slice_index, Option, Some, None, length-set, get_or-set_other, if◌then◌else◌}
use lib.Seq.{set_comm}
use borrow.Author.Tests.{eqb-false}
use Rattle.pisa_isa.specs.declared.cell.Op.{Op}
use Rattle.pisa_isa.specs.declared.cell.Op.TheVariants.{Exch}
use Rattle.pisa_isa.specs.declared.cell.Cell.{Cell}
use Rattle.pisa_isa.specs.declared.machine.Core.{Core}
use Rattle.pisa_isa.specs.declared.machine.Stop.TheVariants.{BadAddress}
use Rattle.pisa_isa.specs.Table.{inverse_op}
use Rattle.pisa_isa.specs.Machine.{State, core_state, fetch, faced, row, effect, effect_at, moved, stop_in, stop_at, stop}
use Rattle.pisa_isa.specs.Machine.{next}
use Rattle.pisa_cluster.specs.declared.processor.Processor.{Processor}
use Rattle.pisa_cluster.specs.Replay.{address_by, address_at, touches, processor_state}
use Rattle.pisa_cluster.specs.Schedules.{is_same_cell}

-- the word in a cell that a step touches, and the cells with another word there
abbrev pub read : Option ℕ → List ℕ → ℕ
read None cells = 0
read (Some at) cells = slice_index cells at

abbrev pub written : Option ℕ → ℕ → List ℕ → List ℕ
written None w cells = cells
written (Some at) w cells = slice_set cells at w

-- the word that a step puts there
abbrev pub put_at : Option Cell → List ℕ → ℕ
put_at None regs = 0
put_at (Some c) regs = slice_index regs c.a

abbrev pub put_by : Processor → ℕ
put_by p = put_at (fetch p.image.code p.core.pc) p.core.regs

-- a row, in a state whose parts are named
module _ (pc : ℤ) (br : ℕ) (back : Bool) (regs : List ℕ) where
  row-local : (op : Op) (a b c i : ℕ) (cells others : List ℕ)
      → read (address_by op b regs) cells ≡ read (address_by op b regs) others
      → row op a b c i (record { pc = pc; br = br; back = back; regs = regs; cells = cells })
      ≡ record (row op a b c i (record { pc = pc; br = br; back = back; regs = regs; cells = others }))
      { cells = written (address_by op b regs) (slice_index regs a) cells }
  row-local Exch a b c i cells others h =
      ap (λ (w : ℕ). record {
        pc = pc;
        br = br;
        back = back;
        regs = slice_set regs a w;
        cells = slice_set cells (slice_index regs b) (slice_index regs a);
      }) h
  row-local op a b c i cells others h = refl

address-inverse : (op : Op) (b : ℕ) (regs : List ℕ) → address_by (inverse_op op) b regs ≡ address_by op b regs
address-inverse Exch b regs = refl
address-inverse op b regs = refl

address-faced : (back : Bool) (c : Cell) (regs : List ℕ)
    → address_by (faced back c).op (faced back c).b regs ≡ address_by c.op c.b regs
address-faced true c regs = address-inverse c.op c.b regs
address-faced false c regs = refl

faced-a : (back : Bool) (c : Cell) → (faced back c).a ≡ c.a
faced-a true c = refl
faced-a false c = refl

-- a cell's effect and the move
module _ (core : Core) where
  abbrev at : List ℕ → State
  at cells = core_state core cells

  effect-local : (o : Option Cell) (cells others : List ℕ)
      → read (address_at o core.regs) cells ≡ read (address_at o core.regs) others
      → effect_at o (at cells) ≡ record (effect_at o (at others))
      { cells = written (address_at o core.regs) (put_at o core.regs) cells }
  effect-local None cells others h = refl
  effect-local (Some c) cells others h =
      let f = faced core.back c in
      let same : address_by f.op f.b core.regs ≡ address_by c.op c.b core.regs = address-faced core.back c core.regs in
      row-local core.pc core.br core.back core.regs f.op f.a f.b f.c f.imm cells others
      (ap (λ t. read t cells) same ∙ h ∙ ap (λ t. read t others) (sym same))
      ∙ ap₂ (λ t (a : ℕ). record (effect c (at others)) { cells = written t (slice_index core.regs a) cells }) same
      (faced-a core.back c)

  moved-local : (m n : State) (cells : List ℕ) → m ≡ record n { cells = cells }
      → moved m ≡ record (moved n) { cells = cells }
  moved-local m n cells h = ap moved h

  next-local : (code : List Cell) (cells others : List ℕ)
      → let o = fetch code core.pc in read (address_at o core.regs) cells ≡ read (address_at o core.regs) others
      → next code (at cells) ≡ record (next code (at others))
      { cells = written (address_at o core.regs) (put_at o core.regs) cells }
  next-local code cells others h =
      moved-local (effect_at (fetch code core.pc) (at cells)) (effect_at (fetch code core.pc) (at others))
      (written (address_at (fetch code core.pc) core.regs) (put_at (fetch code core.pc) core.regs) cells)
      (effect-local (fetch code core.pc) cells others h)

  -- stops depend only on the number of cells
  stop_in-local : (op : Op) (c : Cell) (cells others : List ℕ) → length cells ≡ length others
      → stop_in op c (at cells) ≡ stop_in op c (at others)
  stop_in-local Exch c cells others h = ap (λ (n : ℕ). if nat_lt (slice_index core.regs c.b) n then None else Some
      (BadAddress (slice_index core.regs c.b))) h
  stop_in-local op c cells others h = refl

  stop_at-local : (o : Option Cell) (cells others : List ℕ) → length cells ≡ length others
      → stop_at o (at cells) ≡ stop_at o (at others)
  stop_at-local None cells others h = refl
  stop_at-local (Some c) cells others h = stop_in-local c.op c cells others h

-- the same of a processor
pub next-same : (p : Processor) (cells others : List ℕ) → read (touches p) cells ≡ read (touches p) others
    → next p.image.code (processor_state p cells) ≡ record (next p.image.code (processor_state p others))
    { cells = written (touches p) (put_by p) cells }
next-same p cells others h = next-local p.core p.image.code cells others h

pub stop-same : (p : Processor) (cells others : List ℕ) → length cells ≡ length others
    → stop p.image.code (processor_state p cells) ≡ stop p.image.code (processor_state p others)
stop-same p cells others h = stop_at-local p.core (fetch p.image.code p.core.pc) cells others h

pub next-cells : (p : Processor) (cells : List ℕ) → (next p.image.code (processor_state p cells)).cells
    ≡ written (touches p) (put_by p) cells
next-cells p cells = ap (λ (m : State). m.cells) (next-same p cells cells refl)

pub length-written : (t : Option ℕ) (w : ℕ) (cells : List ℕ) → length (written t w cells) ≡ length cells
length-written None w cells = refl
length-written (Some a) w cells = length-set cells a w

-- two steps that touch no cell both
differ : (a b : ℕ) → nat_eq a b ≡ false → a ≢ b
differ a b h e = eqb-false a b h e

pub read-written : (t u : Option ℕ) (w : ℕ) (cells : List ℕ) → is_same_cell t u ≡ false
    → read t (written u w cells) ≡ read t cells
read-written None u w cells h = refl
read-written (Some a) None w cells h = refl
read-written (Some a) (Some b) w cells h = get_or-set_other cells b a w 0 (differ a b h)

pub written-written : (t u : Option ℕ) (v w : ℕ) (cells : List ℕ) → is_same_cell t u ≡ false
    → written t v (written u w cells) ≡ written u w (written t v cells)
written-written None u v w cells h = refl
written-written (Some a) None v w cells h = refl
written-written (Some a) (Some b) v w cells h = set_comm cells b a w v (λ e. differ a b h (sym e))
