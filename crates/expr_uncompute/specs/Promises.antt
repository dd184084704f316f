-- The laws that contracts state of fragments, quantified over images, directions and memories.
use Rattle.std.specs.Prelude.{◌≡◌, ℕ, ◌+◌, ◌≤◌, Bool, true, false, List, Ok, Err}
use Rattle.register_expressions.specs.rpp_tree.declared.tree.UpdateOp.{UpdateOp}
use Rattle.register_expressions.specs.rpp_tree.Tree.{Expression, Lvalue}
use Rattle.register_expressions.specs.pisa_isa.Machine.{Memory}
use Rattle.register_expressions.specs.code_conventions.declared.registers.TheConstants.{FRAME}
use Rattle.register_expressions.specs.paired_code.declared.part.Symbol.{Symbol}
use Rattle.register_expressions.specs.paired_code.Machine.{Image, memory_reg}
use Rattle.register_expressions.specs.paired_code.Pieces.{Done, Trapped, Runs}
use Rattle.register_expressions.specs.roopl_semantics.Elements.{SHARED_ARRAY}
use Rattle.register_expressions.specs.refine_form.declared.spot.Spot.{Spot}
use Rattle.register_expressions.specs.Code.{words}
use Rattle.expr_uncompute.specs.Code.{place_words}
use Rattle.register_expressions.specs.Number.{number, lvalue_read, index_of, place_address}
use Rattle.register_expressions.specs.Number.{update_shares, swap_shares, Sees}
use Rattle.expr_uncompute.specs.Steps.{value_steps, test_steps, place_steps, fetch_steps}
use Rattle.expr_uncompute.specs.Steps.{apart_steps, both_apart_steps, update_steps, swap_steps}
use Rattle.register_expressions.specs.Laws.{bases_of, Ready, Xored, truth_of}
use Rattle.expr_uncompute.specs.Laws.{updated_at, swapped_at, UpdateStays, BothStay}

-- where the free words of the frame begin: all that is read is below
abbrev pub free_at : ℕ → Memory → ℕ
free_at free m = memory_reg m FRAME + free

abbrev pub SeesIn : (List ℕ → Spot) → ℕ → Memory → Expression → Type 0
SeesIn spot free m e = Sees spot (bases_of m) (free_at free m) m.cells e

-- the number of an expression is xored into a register, or its fault is a trap, either way; nothing
-- else differs
pub record ExpressionLaw (spot : List ℕ → Spot) (free into : ℕ) (e : Expression)
    (p : List Symbol) : Type 0 where
  pub xors : (im : Image) (d : Bool) (m : Memory) → Ready free (words e) m → SeesIn spot free m e
      → Xored into (value_steps e) m (number spot (bases_of m) m.cells e) im p d

-- the truth value of it
pub record ConditionLaw (spot : List ℕ → Spot) (free into : ℕ) (e : Expression)
    (p : List Symbol) : Type 0 where
  pub xors : (im : Image) (d : Bool) (m : Memory) → Ready free (words e) m → SeesIn spot free m e
      → Xored into (test_steps e) m (truth_of (number spot (bases_of m) m.cells e)) im p d

-- what a statement on places needs
pub record CanEvaluate (spot : List ℕ → Spot) (free n : ℕ) (e e' : Expression) (m : Memory) : Type 0
  where
    pub ready : Ready free n m
    pub first : SeesIn spot free m e
    pub second : SeesIn spot free m e'

-- a trap with the fault, in at most so many steps
abbrev pub IsTrap : Image → List Symbol → Bool → Memory → (code steps : ℕ) → Type 0
IsTrap im p d m code steps = (k : ℕ) × (k ≤ steps) × Runs im p d m (Trapped code k)

-- forward the place is updated, backward the update is undone; the place's fault comes before the
-- value's, and then the one of a shared array
pub record UpdateLaw (spot : List ℕ → Spot) (free : ℕ) (op : UpdateOp) (target : Lvalue)
    (value : Expression) (p : List Symbol) : Type 0 where
  pub updates : (im : Image) (d : Bool) (m : Memory)
      → CanEvaluate spot free (place_words target + words value) (lvalue_read target) value m → (a v : ℕ)
      → place_address spot (bases_of m) m.cells target ≡ Ok a
      → number spot (bases_of m) m.cells value ≡ Ok v
      → update_shares spot (bases_of m) m.cells target value ≡ false
      → UpdateStays spot (bases_of m) (free_at free m) target value m.cells (updated_at d op a v m.cells)
      → Runs im p d m (Done (record m { cells = updated_at d op a v m.cells })
      (update_steps target value))
  pub place_faults : (im : Image) (d : Bool) (m : Memory)
      → CanEvaluate spot free (place_words target + words value) (lvalue_read target) value m → (code : ℕ)
      → place_address spot (bases_of m) m.cells target ≡ Err code
      → IsTrap im p d m code (place_steps target)
  pub value_faults : (im : Image) (d : Bool) (m : Memory)
      → CanEvaluate spot free (place_words target + words value) (lvalue_read target) value m → (a code : ℕ)
      → place_address spot (bases_of m) m.cells target ≡ Ok a
      → number spot (bases_of m) m.cells value ≡ Err code
      → IsTrap im p d m code (place_steps target + fetch_steps value)
  pub sharing_faults : (im : Image) (d : Bool) (m : Memory)
      → CanEvaluate spot free (place_words target + words value) (lvalue_read target) value m → (a v : ℕ)
      → place_address spot (bases_of m) m.cells target ≡ Ok a
      → number spot (bases_of m) m.cells value ≡ Ok v
      → update_shares spot (bases_of m) m.cells target value ≡ true
      → IsTrap im p d m SHARED_ARRAY
      (place_steps target + fetch_steps value + apart_steps target (index_of target) value)

-- either way two places are swapped; if they are one, nothing changes
pub record SwapLaw (spot : List ℕ → Spot) (free : ℕ) (left right : Lvalue)
    (p : List Symbol) : Type 0 where
  pub swaps : (im : Image) (d : Bool) (m : Memory)
      → CanEvaluate spot free (place_words left + place_words right) (lvalue_read left) (lvalue_read right) m
      → (a a' : ℕ) → place_address spot (bases_of m) m.cells left ≡ Ok a
      → place_address spot (bases_of m) m.cells right ≡ Ok a'
      → swap_shares spot (bases_of m) m.cells left right ≡ false
      → BothStay spot (bases_of m) (free_at free m) left right m.cells (swapped_at a a' m.cells)
      → Runs im p d m (Done (record m { cells = swapped_at a a' m.cells }) (swap_steps left right))
  pub left_faults : (im : Image) (d : Bool) (m : Memory)
      → CanEvaluate spot free (place_words left + place_words right) (lvalue_read left) (lvalue_read right) m
      → (code : ℕ) → place_address spot (bases_of m) m.cells left ≡ Err code
      → IsTrap im p d m code (place_steps left)
  pub right_faults : (im : Image) (d : Bool) (m : Memory)
      → CanEvaluate spot free (place_words left + place_words right) (lvalue_read left) (lvalue_read right) m
      → (a code : ℕ) → place_address spot (bases_of m) m.cells left ≡ Ok a
      → place_address spot (bases_of m) m.cells right ≡ Err code
      → IsTrap im p d m code (place_steps left + place_steps right)
  pub sharing_faults : (im : Image) (d : Bool) (m : Memory)
      → CanEvaluate spot free (place_words left + place_words right) (lvalue_read left) (lvalue_read right) m
      → (a a' : ℕ) → place_address spot (bases_of m) m.cells left ≡ Ok a
      → place_address spot (bases_of m) m.cells right ≡ Ok a'
      → swap_shares spot (bases_of m) m.cells left right ≡ true
      → IsTrap im p d m SHARED_ARRAY
      (place_steps left + place_steps right + both_apart_steps left right)
