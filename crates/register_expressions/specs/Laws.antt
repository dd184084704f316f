-- What a memory has before code of expressions, and what a value does with it.
use Rattle.std.specs.Prelude.{◌≡◌, ℕ, ◌+◌, ◌^◌, ◌<◌, ◌≤◌, ◌⊎◌, Bool, List, length, slice_index}
use Rattle.std.specs.Prelude.{bit_xor, Result, Ok, Err}
use Rattle.code_scope.specs.pisa_isa.Machine.{Memory}
use Rattle.code_scope.specs.code_conventions.declared.registers.TheConstants.{FRAME, OBJECT}
use Rattle.code_scope.specs.paired_code.declared.part.Symbol.{Symbol}
use Rattle.code_scope.specs.paired_code.Machine.{Image, memory_reg, memory_with_reg}
use Rattle.code_scope.specs.paired_code.Pieces.{Done, Trapped, Runs}
use Rattle.code_scope.specs.roopl_semantics.Operators.{is_true, truth_word}
use Rattle.register_expressions.specs.Number.{Bases}

-- a register that code of expressions uses for itself
abbrev pub Temporary : ℕ → Type 0
Temporary r = ((4 < r) × (r < 11)) ⊎ ((15 < r) × (r < 25))

-- the addresses of the current object and of the current frame
abbrev pub bases_of : Memory → Bases
bases_of m = record { object = memory_reg m OBJECT; frame = memory_reg m FRAME }

-- the temporaries are 0, and so are n words of the frame from word `free` on
pub record Ready (free n : ℕ) (m : Memory) : Type 0 where
  pub count : length m.regs ≡ 32
  pub clear : (r : ℕ) → Temporary r → memory_reg m r ≡ 0
  pub small : length m.cells ≤ 2 ^ 31
  pub words : (a : ℕ) → slice_index m.cells a < 2 ^ 32
  pub inside : memory_reg m FRAME + (free + n) ≤ length m.cells
  pub empty : (a : ℕ) → memory_reg m FRAME + free ≤ a → a < memory_reg m FRAME + (free + n)
      → slice_index m.cells a ≡ 0

-- the result is xored into a register and nothing else differs, or its fault is a trap; the steps
abbrev pub Xored : (into steps : ℕ) → Memory → Result ℕ ℕ → Image → List Symbol → Bool → Type 0
Xored into steps m (Ok v) im p d = Runs im p d m
    (Done (memory_with_reg m into (bit_xor (memory_reg m into) v)) steps)
Xored into steps m (Err c) im p d = (k : ℕ) × (k ≤ steps) × Runs im p d m (Trapped c k)

-- the truth value of a result
abbrev pub truth_of : Result ℕ ℕ → Result ℕ ℕ
truth_of (Ok v) = Ok (truth_word (is_true v))
truth_of (Err c) = Err c
