-- The bytes of a state file, and how they are read, with the first refusal.
use Rattle.std.specs.Prelude.{◌≡◌, ℕ, ◌+◌, ◌*◌, List, ◌++◌, All, length, codes, Result, Ok, Err}
use Rattle.std.specs.Prelude.{nat_eq, if◌then◌else◌}
use Rattle.pisa_machine.specs.rpp_words.Words.{IsWord}
use Rattle.pisa_machine.specs.pisa_isa.Image.{Segments}
use Rattle.pisa_machine.specs.pisa_isa.Machine.{Memory}
use Rattle.pisa_machine.specs.Position.{Position, first_position}
use Rattle.pisa_image.specs.declared.error.NumberError.{NumberError}
use Rattle.pisa_image.specs.declared.error.NumberError.TheVariants as number
use Rattle.pisa_image.specs.Numbers.{◌>>=◌, refused_as, word_bytes, words_bytes, read_word_at, words_at}
use Rattle.pisa_loader.specs.declared.state.TheConstants.{STATE_MARK, STATE_VERSION}
use Rattle.pisa_loader.specs.declared.error.LoadError.{LoadError}
use Rattle.pisa_loader.specs.declared.error.LoadError.TheVariants.{BadState, NoMemory}

abbrev pub loaded_memory : (regs cells : List ℕ) → Memory
loaded_memory regs cells = record { regs = regs; cells = cells }

-- 32 registers and so many cells, all of them words
pub record IsMemory (count : ℕ) (m : Memory) : Type 0 where
  pub registers : length m.regs ≡ 32
  pub size : length m.cells ≡ count
  pub register_words : All IsWord m.regs
  pub cell_words : All IsWord m.cells

-- the mark of the format, its version, the registers, the number of cells, the cells
abbrev pub state_bytes : Memory → List ℕ
state_bytes m = codes "RPPS" ++ word_bytes STATE_VERSION ++ words_bytes m.regs
    ++ word_bytes (length m.cells) ++ words_bytes m.cells

-- what a function returned, seen by `view`, is what reading gives, unless memory ran out
abbrev pub Fails : {Y : Type 0} → LoadError → Result Y LoadError → Type 0
Fails NoMemory read = Unit {0}
Fails refusal read = read ≡ Err refusal

abbrev pub Gives : {X Y : Type 0} → (X → Y) → Result X LoadError → Result Y LoadError → Type 0
Gives view (Ok x) read = read ≡ Ok (view x)
Gives view (Err e) read = Fails e read

-- a state that ends within a number
abbrev pub load_refusal : NumberError → LoadError
load_refusal (number.Cut at) = BadState at
load_refusal number.NoMemory = NoMemory

-- a number that must be this one, and the bytes after it
abbrev pub known_word : (known at : ℕ) → List ℕ → Result (List ℕ) LoadError
known_word known at bytes = refused_as load_refusal (read_word_at at bytes) >>= λ word.
    if nat_eq word.0 known then Ok word.1 else Err (BadState at)

-- a state with so many cells, all of the bytes
unfoldable pub state_at : (count : ℕ) → List ℕ → Result Memory LoadError
state_at count bytes = do
  marked ← known_word STATE_MARK 0 bytes
  versioned ← known_word STATE_VERSION 4 marked
  regs ← refused_as load_refusal (words_at 32 8 versioned)
  counted ← known_word count 136 regs.1
  cells ← refused_as load_refusal (words_at count 140 counted)
  if nat_eq (length cells.1) 0 then Ok (loaded_memory regs.0 cells.0) else Err (BadState (140 + 4 * count))

-- the machine of an image at the start of a run from a memory
abbrev pub at_start : Segments → Result Memory LoadError → Result Position LoadError
at_start image read = read >>= λ m. Ok (first_position image m.regs m.cells)
