-- Small programs, run by their definition.
use Rattle.std.proofs.Common.{◌≡◌, refl, ℕ, List, [], ◌∷◌, Option, Some, None, pos, negsuc, ℤ, Bool, true, false}
use Rattle.std.proofs.Common.{replicate, map}
use Rattle.pisa_isa.specs.declared.cell.Op.{Op}
use Rattle.pisa_isa.specs.declared.cell.Op.TheVariants.{Addi, Neg, Swapbr, Bra, Rbra, Exch, Start, Finish}
use Rattle.pisa_isa.specs.declared.cell.Cell.{Cell}
use Rattle.pisa_isa.specs.declared.machine.Stop.TheVariants.{Finished, Returned, BadAddress, OffCode}
use Rattle.pisa_isa.specs.Machine.{State}
use Rattle.pisa_isa.specs.Runs.{End, steps, run, started, visited, zero_registers}

abbrev at : Op → (a b i : ℕ) → Cell
at op a b i = record { op = op; a = a; b = b; c = 0; imm = i }

-- a run from START with all registers 0 and no data cells
abbrev from_start : List Cell → End
from_start code = run code 1000 (started code zero_registers [])

-- a subroutine that adds 5 to $1, run forward, backward and forward

abbrev program : List Cell
program =
    at Start 0 0 0 ∷ at Bra 0 0 5 ∷ at Rbra 0 0 4 ∷ at Bra 0 0 3 ∷ at Finish 0 0 0
    ∷ at Bra 0 0 4 ∷ at Swapbr 2 0 0 ∷ at Neg 2 0 0 ∷ at Addi 1 0 5 ∷ at Bra 0 0 4294967292 ∷ []

abbrev last : State
last = record { pc = pos 4; br = 0; back = false; regs = 0 ∷ 5 ∷ replicate 30 0; cells = [] }

runs_25 : steps program 25 (started program zero_registers []) ≡ Some last
runs_25 = refl

finishes : from_start program ≡ record { why = Finished; spent = 26; last = last }
finishes = refl

-- after ten steps the body runs backward
abbrev place_of : Option State → (ℤ × ℕ × Bool)
place_of None = (pos 0, 0, false)
place_of (Some m) = (m.pc, m.br, m.back)

runs_10 : place_of (steps program 10 (started program zero_registers [])) ≡ (pos 6, 4294967292, true)
runs_10 = refl

-- a turn at once leads back to START
returns : from_start (at Start 0 0 0 ∷ at Rbra 0 0 0 ∷ at Finish 0 0 0 ∷ [])
    ≡ record {
      why = Returned;
      spent = 3;
      last = record {
        pc = pos 0;
        br = 0;
        back = true;
        regs = zero_registers;
        cells = [];
      };
    }
returns = refl

-- an address that no cell has
exchanges : from_start (at Start 0 0 0 ∷ at Addi 1 0 4294967295 ∷ at Exch 2 1 0 ∷ at Finish 0 0 0 ∷ [])
    ≡ record {
      why = BadAddress 4294967295;
      spent = 3;
      last = record
          { pc = pos 2; br = 0; back = false; regs = 0 ∷ 4294967295 ∷ replicate 30 0; cells = [] };
    }
exchanges = refl

-- branches that lead off the code
past_the_end : from_start (at Start 0 0 0 ∷ at Bra 0 0 5 ∷ at Finish 0 0 0 ∷ [])
    ≡ record {
      why = OffCode (pos 6);
      spent = 2;
      last = record
          { pc = pos 6; br = 5; back = false; regs = zero_registers; cells = [] };
    }
past_the_end = refl

before_the_start : from_start (at Start 0 0 0 ∷ at Bra 0 0 4294967295 ∷ at Finish 0 0 0 ∷ [])
    ≡ record {
      why = OffCode (negsuc 0);
      spent = 3;
      last = record
          { pc = negsuc 0; br = 4294967295; back = false; regs = zero_registers; cells = [] };
    }
before_the_start = refl

-- the shortest program, and the places of its steps
abbrev empty : List Cell
empty = at Start 0 0 0 ∷ at Finish 0 0 0 ∷ []

finishes_at_once : from_start empty ≡ record {
  why = Finished;
  spent = 2;
  last = record { pc = pos 1; br = 0; back = false; regs = zero_registers; cells = [] };
}
finishes_at_once = refl

visits_both : map (λ m. m.pc) (visited empty 1000 (started empty zero_registers [])) ≡ pos 0 ∷ pos 1 ∷ []
visits_both = refl
