-- Results in turn.
use Rattle.std.specs.Prelude.{◌≡◌, ◌≢◌, ℕ, Option, Some, None, Result, Ok, Err}
use Rattle.pisa_asm.specs.declared.error.AsmError.{AsmError}
use Rattle.pisa_asm.specs.declared.error.AsmError.TheVariants.{BadLine, NoMemory}

-- what follows if there is no refusal
abbrev pub and_then : {T U E : Type 0} → Result T E → (T → Result U E) → Result U E
and_then (Ok x) next = next x
and_then (Err e) next = Err e

-- the refusal that a meaning has; running out of memory is allowed everywhere
abbrev pub Refuses : {T : Type 0} → Result T AsmError → AsmError → Type 0
Refuses meaning e = e ≢ NoMemory → meaning ≡ Err e

-- what a line must contain, or that it is no line
abbrev pub or_bad : {T : Type 0} → ℕ → Option T → Result T AsmError
or_bad line None = Err (BadLine line)
or_bad line (Some x) = Ok x
