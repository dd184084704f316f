-- Numbers of 32 bits as bytes, the lowest byte first.
use Rattle.std.specs.Prelude.{◌≡◌, ℕ, zero, suc, ◌+◌, List, [], ◌∷◌, length, take, drop, Result}
use Rattle.std.specs.Prelude.{Ok, Err, nat_lt, if◌then◌else◌}
use Rattle.std.specs.List.{flat_map}
use Rattle.std.specs.Int.{w32, to_le_bytes, from_le_bytes}
use Rattle.pisa_image.specs.declared.error.NumberError.{NumberError}
use Rattle.pisa_image.specs.declared.error.NumberError.TheVariants.{Cut, NoMemory}

abbrev pub word_bytes : ℕ → List ℕ
word_bytes n = to_le_bytes w32 n

abbrev pub words_bytes : List ℕ → List ℕ
words_bytes words = flat_map word_bytes words

-- a step of reading, and the next one if it refuses nothing
infixl 10 ◌>>=◌
abbrev pub ◌>>=◌ : {E A B : Type 0} → Result A E → (A → Result B E) → Result B E
(Ok x) >>= f = f x
(Err e) >>= f = Err e

-- a reader whose refusals are said in the words of a reader around it
abbrev pub refused_as : {E F A : Type 0} → (words : E → F) → Result A E → Result A F
refused_as words (Ok x) = Ok x
refused_as words (Err e) = Err (words e)

-- the number at the beginning and the bytes after it, if these bytes begin at an offset; otherwise
-- they are refused as cut at their end
abbrev pub read_word_at : (at : ℕ) → List ℕ → Result (ℕ × List ℕ) NumberError
read_word_at at bytes = if nat_lt (length bytes) 4 then Err (Cut (at + length bytes))
    else Ok (from_le_bytes w32 (take 4 bytes), drop 4 bytes)

-- so many items by a reader of one, each of so many bytes, and the bytes after them
unfoldable pub many_at : {E A : Type 0} → (one : ℕ → List ℕ → Result (A × List ℕ) E)
    → (size count at : ℕ) → List ℕ → Result (List A × List ℕ) E
many_at one size zero at bytes = Ok ([], bytes)
many_at one size (suc count) at bytes = do
  first ← one at bytes
  others ← many_at one size count (at + size) first.1
  Ok (first.0 ∷ others.0, others.1)

abbrev pub words_at : (count at : ℕ) → List ℕ → Result (List ℕ × List ℕ) NumberError
words_at count at bytes = many_at read_word_at 4 count at bytes

-- what a function returned, seen by `view`, is what reading gives, unless memory ran out
abbrev pub NumberFails : {Y : Type 0} → NumberError → Result Y NumberError → Type 0
NumberFails NoMemory read = Unit {0}
NumberFails refusal read = read ≡ Err refusal

abbrev pub NumberGives : {X Y : Type 0} → (X → Y) → Result X NumberError → Result Y NumberError → Type 0
NumberGives view (Ok x) read = read ≡ Ok (view x)
NumberGives view (Err e) read = NumberFails e read
