-- Files that commands find and leave.
use Rattle.std.specs.Prelude.{◌≡◌, ℕ, ◌+◌, ◌==◌, nat_le, Bool, false, ◌&&◌, List, [], ◌∷◌, ◌++◌}
use Rattle.std.specs.Prelude.{length, take, drop, if◌then◌else◌, codes, is_none, ⊤}
use Rattle.std.specs.Prelude.{Option, Some, None, option_map, option_and_then, ok_or, Result, Ok, Err}
use Rattle.std.specs.Int.{w64, to_le_bytes}
use Rattle.std.specs.Option.{option_map_or}
use Rattle.std.specs.List.{list_all}
use Rattle.std.specs.Str.{bytes_eq}
use Rattle.rpp_ports.specs.Ports.{Texts, SetsText, LeavesAfter}
use Rattle.rpp_ports.specs.declared.shelf.ShelfFault.TheVariants as shelf
use Rattle.row_parts.specs.declared.fault.Fault.{Fault}
use Rattle.row_parts.specs.declared.fault.Fault.TheVariants.{Differs, NoMemory}
use Rattle.row_parts.specs.Pieces.{begins, ends, cut, pieces}
use Rattle.row_parts.specs.Digits.{number}
use Rattle.row_parts.specs.Texts.{is_word}

-- nothing if it holds, and else this text
abbrev pub unless : Bool → List ℕ → Option (List ℕ)
unless holds text = if holds then None else Some text

-- what is found in a file, or that it is missing
abbrev pub in_file : Texts → List ℕ → (List ℕ → Option (List ℕ)) → Option (List ℕ)
in_file texts name differs = option_map_or differs (texts name) (Some (codes "a file is missing"))

-- bytes begin with others, end with them or equal them
abbrev pub holds_how : List ℕ → List ℕ → List ℕ → Bool
holds_how how found wanted = if bytes_eq how (codes "begins") then begins found wanted
    else if bytes_eq how (codes "ends") then ends found wanted
    else bytes_eq found wanted

-- a file does not so hold a text
abbrev pub compared : Texts → List ℕ → List ℕ → List ℕ → Option (List ℕ)
compared texts how name wanted = in_file texts name
    (λ found. unless (holds_how how found wanted) (codes "a file has other contents"))

-- a file is there
abbrev pub is_there : Texts → List ℕ → Option (List ℕ)
is_there texts name = unless (is_none (texts name))
    (codes "there is a file that is not to be there")

-- one of files is there
abbrev pub some_is_there : Texts → List ℕ → Option (List ℕ)
some_is_there texts names = unless (list_all (λ name. is_none (texts name)) (pieces (codes " ") names))
    (codes "there is a file that is not to be there")

-- two files are not the same
abbrev pub two_differ : Texts → List ℕ → Option (List ℕ)
two_differ texts names = option_map_or
    (λ two. in_file texts two.0 (λ found. in_file texts two.1 (λ other.
    unless (bytes_eq found other) (codes "two files differ"))))
    (cut (codes " ") names) (Some (codes "a line has no two names of files"))

-- a file has not so many bytes
abbrev pub size_differs : Texts → List ℕ → Option (List ℕ)
size_differs texts text = option_map_or
    (λ parts. in_file texts parts.0 (λ found.
    unless (option_map_or (λ size. size == length found) (number parts.1) false)
    (codes "a file has another size")))
    (cut (codes " ") text) (Some (codes "a line has no name and size"))

-- the names and the changes of a line `NAME: OTHER with CHANGES`
abbrev pub copying : List ℕ → Option (List ℕ × List ℕ × List ℕ)
copying line = option_and_then (λ named. option_and_then (λ changed.
    if is_word named.0 && is_word changed.0 then Some (named.0, changed.0, changed.1) else None)
    (cut (codes " with ") named.1)) (cut (codes ": ") line)

-- how a change is made, and its numbers
abbrev pub change_parts : List ℕ → Option (List ℕ × ℕ × ℕ)
change_parts change = option_and_then (λ parts. option_map_or
    (λ two. option_and_then (λ first. option_map (λ second. (parts.0, first, second))
    (number two.1)) (number two.0))
    (cut (codes " ") parts.1)
    (option_map (λ first. (parts.0, first, 0)) (number parts.1)))
    (cut (codes " ") change)

-- bytes in place of as many others
abbrev pub put_at : ℕ → List ℕ → List ℕ → Result (List ℕ) (List ℕ)
put_at at new bytes = if nat_le (at + length new) (length bytes)
    then Ok (take at bytes ++ (new ++ drop (at + length new) bytes))
    else Err (codes "a byte that changes is not there")

-- the bytes after a change: `cut N`, `add N`, `byte AT N` or `word AT N`
abbrev pub changed : List ℕ → List ℕ → Result (List ℕ) (List ℕ)
changed bytes change = option_map_or (λ parts.
    if bytes_eq parts.0 (codes "cut") then Ok (take parts.1 bytes)
    else if bytes_eq parts.0 (codes "add") then Ok (bytes ++ take 1 (to_le_bytes w64 parts.1))
    else put_at parts.1 (take (if bytes_eq parts.0 (codes "byte") then 1 else 4)
    (to_le_bytes w64 parts.2)) bytes)
    (change_parts change) (Err (codes "a line has no change"))

-- what follows from a value, unless there is none
abbrev pub on_ok : (List ℕ → Result (List ℕ) (List ℕ)) → Result (List ℕ) (List ℕ) → Result (List ℕ) (List ℕ)
on_ok next (Ok bytes) = next bytes
on_ok next (Err why) = Err why

-- the bytes after changes, or why one cannot be made
abbrev pub all_changed : List ℕ → List (List ℕ) → Result (List ℕ) (List ℕ)
all_changed bytes [] = Ok bytes
all_changed bytes (change ∷ rest) = on_ok (λ next. all_changed next rest) (changed bytes change)

-- a copy of a file with changes, parted by ", "
abbrev pub copied : Texts → List ℕ → List ℕ → Result (List ℕ) (List ℕ)
copied texts other changes = on_ok (λ bytes. all_changed bytes (pieces (codes ", ") changes))
    (ok_or (texts other) (codes "a file is missing"))

-- a file was written, or the files are as an error of the write leaves them
abbrev pub Writes : Texts → Texts → List ℕ → List ℕ → Result (Unit {0}) Fault → Type 0
Writes old new name bytes (Ok done) = SetsText (Some old) (Some new) name bytes
Writes old new name bytes (Err (Differs what)) =
    LeavesAfter (Some old) (Some new) name shelf.Failed
Writes old new name bytes (Err NoMemory) = LeavesAfter (Some old) (Some new) name shelf.NoMemory

-- bytes become what a result says, or it is an error with its text; memory may run out
abbrev pub Becomes : Result (List ℕ) (List ℕ) → List ℕ → Result (Unit {0}) Fault → Type 0
Becomes wanted new (Ok done) = wanted ≡ Ok new
Becomes wanted new (Err (Differs what)) = wanted ≡ Err what.now
Becomes wanted new (Err NoMemory) = ⊤

-- a file that is made of another one, or why it cannot be made
abbrev pub Copies : Texts → Texts → List ℕ → Result (List ℕ) (List ℕ) → Result (Unit {0}) Fault → Type 0
Copies old new name (Ok bytes) result = Writes old new name bytes result
Copies old new name (Err text) (Ok done) = ⊥
Copies old new name (Err text) (Err (Differs what)) = (text ≡ what.now) × (new ≡ old)
Copies old new name (Err text) (Err NoMemory) = new ≡ old
