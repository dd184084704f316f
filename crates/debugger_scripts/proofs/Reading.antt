-- Reading the lines of a script one after the other, as a loop does.
use Rattle.std.proofs.Common.{◌≡◌, ◌∙◌, refl, sym, ap, ℕ, ◌+◌, ◌<◌, ◌≤◌, List, [], ◌∷◌, length, map, drop, get_or}
use Rattle.std.proofs.Common.{length-drop, Result, Ok, Err, arith}
use Rattle.std.proofs.lemmas.List.{nil_from_length, drop_more}
use Rattle.pisa_scripts.specs.declared.command.Command.{Command}
use Rattle.debugger_scripts.specs.declared.error.ScriptError.{ScriptError}
use Rattle.debugger_scripts.specs.declared.error.ScriptError.TheVariants.{BadCommand, NoMemory}
use Rattle.debugger_scripts.specs.Scripts.{with_line, commands_from, Fails}

pub fails_with : (e : ScriptError) (inner whole : Result (List Command) ScriptError)
    → ((r : ScriptError) → inner ≡ Err r → whole ≡ Err r) → Fails e inner → Fails e whole
fails_with NoMemory inner whole go f = tt
fails_with (BadCommand line) inner whole go f = go (BadCommand line) f

line_read : (line : ℕ) (commands more : List Command) (text : List ℕ) (texts : List (List ℕ))
    → with_line line commands text ≡ Ok more
    → commands_from line commands (text ∷ texts) ≡ commands_from (line + 1) more texts
unfolding commands_from
line_read line commands more text texts e = rw e refl

line_refused : (line : ℕ) (commands : List Command) (text : List ℕ) (texts : List (List ℕ)) (r : ScriptError)
    → with_line line commands text ≡ Err r → commands_from line commands (text ∷ texts) ≡ Err r
unfolding commands_from
line_refused line commands text texts r e = rw e refl

no_line : (line : ℕ) (commands : List Command) → commands_from line commands [] ≡ Ok commands
unfolding commands_from
no_line line commands = refl

pub goes_on : {A : Type 0} (f : A → List ℕ) (line : ℕ) (commands more : List Command) (items : List A) (i : ℕ) (d : A)
    (total : Result (List Command) ScriptError)
    → i < length items → with_line line commands (f (get_or items i d)) ≡ Ok more
    → commands_from line commands (map f (drop i items)) ≡ total
    → commands_from (line + 1) more (map f (drop (i + 1) items)) ≡ total
goes_on f line commands more items i d total inside e so_far =
    sym (line_read line commands more (f (get_or items i d)) (map f (drop (i + 1) items)) e)
    ∙ ap (commands_from line commands) (sym (ap (map f) (drop_more items i d inside))) ∙ so_far

pub stops : {A : Type 0} (f : A → List ℕ) (line : ℕ) (commands : List Command) (items : List A) (i : ℕ) (d : A)
    (r : ScriptError) (total : Result (List Command) ScriptError)
    → i < length items → with_line line commands (f (get_or items i d)) ≡ Err r
    → commands_from line commands (map f (drop i items)) ≡ total → total ≡ Err r
stops f line commands items i d r total inside e so_far =
    sym so_far ∙ ap (commands_from line commands) (ap (map f) (drop_more items i d inside))
    ∙ line_refused line commands (f (get_or items i d)) (map f (drop (i + 1) items)) r e

pub is_done : {A : Type 0} (f : A → List ℕ) (line : ℕ) (commands : List Command) (items : List A) (i : ℕ)
    (total : Result (List Command) ScriptError)
    → length items ≤ i → commands_from line commands (map f (drop i items)) ≡ total → total ≡ Ok commands
is_done {A = A} f line commands items i total le so_far =
    let none : drop i items ≡ [] = nil_from_length (drop i items) (omega (arith, length-drop i items)) in
    sym so_far ∙ ap (λ (xs : List A). commands_from line commands (map f xs)) none ∙ no_line line commands
