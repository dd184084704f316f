-- Several processors on one memory: where a list of their steps leads.
use Rattle.std.specs.Prelude.{◌≡◌, ℕ, zero, suc, pos, false, List, [], ◌∷◌, length, map, replicate}
use Rattle.std.specs.Prelude.{Option, Some, None, slice_get, slice_set, slice_index}
use Rattle.pisa_isa.specs.declared.cell.Op.{Op}
use Rattle.pisa_isa.specs.declared.cell.Op.TheVariants.{Exch}
use Rattle.pisa_isa.specs.declared.cell.Cell.{Cell}
use Rattle.pisa_isa.specs.Image.{Segments, start_of}
use Rattle.pisa_isa.specs.Machine.{State, core_state, fetch, stop, next}
use Rattle.pisa_isa.specs.Runs.{zero_registers}
use Rattle.pisa_cluster.specs.declared.processor.Processor.{Processor}
use Rattle.pisa_cluster.specs.declared.processor.Kept.{Kept}

-- the processors, of which the first has number 1, and their common cells
pub record Joint : Type 0 where
  pub processors : List Processor
  pub cells : List ℕ

-- the processor with a number
abbrev pub processor_at : Joint → ℕ → Option Processor
processor_at s zero = None
processor_at s (suc i) = slice_get s.processors i

-- what a processor sees: its own registers, and the common cells
abbrev pub processor_state : Processor → List ℕ → State
processor_state p cells = core_state p.core cells

-- a processor in a state that it sees
abbrev pub in_state : Processor → State → Processor
in_state p m = record p { core = record { pc = m.pc; br = m.br; back = m.back; regs = m.regs } }

-- the address in the second register of an EXCH
abbrev pub address_by : Op → (b : ℕ) → (regs : List ℕ) → Option ℕ
address_by Exch b regs = Some (slice_index regs b)
address_by _ b regs = None

abbrev pub address_at : Option Cell → (regs : List ℕ) → Option ℕ
address_at None regs = None
address_at (Some c) regs = address_by c.op c.b regs

-- the cell that the next step of a processor touches
abbrev pub touches : Processor → Option ℕ
touches p = address_at (fetch p.image.code p.core.pc) p.core.regs

-- a processor's next state, and its cells as the common ones
abbrev pub with_state : Joint → (i : ℕ) → Processor → State → Joint
with_state s i p m = record {
  processors = slice_set s.processors i (in_state p m);
  cells = m.cells;
}

abbrev pub step_of : Joint → (i : ℕ) → Option Processor → Joint
step_of s i None = s
step_of s i (Some p) = with_state s i p (next p.image.code (processor_state p s.cells))

-- one step of the processor with a number
abbrev pub cstep : Joint → ℕ → Joint
cstep s zero = s
cstep s (suc i) = step_of s i (slice_get s.processors i)

-- a step of each processor of a list, in order
abbrev pub replay : Joint → List ℕ → Joint
replay s [] = s
replay s (who ∷ rest) = replay (cstep s who) rest

-- the next step of a processor is no stop, and touches what is noted
pub record StepGoes (s : Joint) (step : Kept) : Type 0 where
  pub processor : Processor
  pub there : processor_at s step.who ≡ Some processor
  pub goes : stop processor.image.code (processor_state processor s.cells) ≡ None
  pub touched : step.touched ≡ touches processor

-- so is each of a list, one after the other
abbrev pub AllGo : Joint → List Kept → Type 0
AllGo s [] = Unit {0}
AllGo s (step ∷ rest) = StepGoes s step × AllGo (cstep s step.who) rest

-- who made the steps
abbrev pub makers : List Kept → List ℕ
makers kept = map (λ step. step.who) kept

-- a processor at the START of its image, with zero registers
abbrev pub started_processor : Segments → Processor
started_processor image =
    record {
      image = image;
      core = record {
        pc = pos (start_of image.code);
        br = 0;
        back = false;
        regs = zero_registers;
      };
    }

-- the processors of images at their START, and so many zero cells
abbrev pub joint_begun : List Segments → (cells : ℕ) → Joint
joint_begun images cells = record { processors = map started_processor images; cells = replicate cells 0 }

-- the start of processors and cells that have run
abbrev pub start_of_joint : Joint → Joint
start_of_joint s = joint_begun (map (λ p. p.image) s.processors) (length s.cells)
