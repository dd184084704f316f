-- Reading the lines of a script one after the other, as a loop does.
use Rattle.std.proofs.Common.{◌≡◌, ◌∙◌, refl, sym, ap, ℕ, ◌+◌, ◌<◌, ◌≤◌, List, [], ◌∷◌, length, map, drop, get_or}
use Rattle.std.proofs.Common.{length-drop, Result, Ok, Err, arith}
use Rattle.std.proofs.lemmas.List.{nil_from_length, drop_more}
use Rattle.cluster_commands.specs.declared.script.Event.{Event}
use Rattle.cluster_commands.specs.declared.error.ScriptError.{ScriptError}
use Rattle.cluster_commands.specs.declared.error.ScriptError.TheVariants.{BadEvent, NoMemory}
use Rattle.cluster_commands.specs.ClusterScripts.{with_event_line, events_from, EventsFail}

pub fails_with : (e : ScriptError) (inner whole : Result (List Event) ScriptError)
    → ((r : ScriptError) → inner ≡ Err r → whole ≡ Err r) → EventsFail e inner → EventsFail e whole
fails_with NoMemory inner whole go f = tt
fails_with (BadEvent line) inner whole go f = go (BadEvent line) f

line_read : (processors : ℕ) (line : ℕ) (commands more : List Event) (text : List ℕ) (texts : List (List ℕ))
    → with_event_line processors line commands text ≡ Ok more
    → events_from processors line commands (text ∷ texts) ≡ events_from processors (line + 1) more texts
unfolding events_from
line_read processors line commands more text texts e = rw e refl

line_refused : (processors : ℕ) (line : ℕ) (commands : List Event) (text : List ℕ) (texts : List (List ℕ))
    (r : ScriptError) → with_event_line processors line commands text ≡ Err r
    → events_from processors line commands (text ∷ texts) ≡ Err r
unfolding events_from
line_refused processors line commands text texts r e = rw e refl

no_line : (processors : ℕ) (line : ℕ) (commands : List Event) → events_from processors line commands [] ≡ Ok commands
unfolding events_from
no_line processors line commands = refl

pub goes_on : {A : Type 0} (processors : ℕ) (f : A → List ℕ) (line : ℕ) (commands more : List Event) (items : List A)
    (i : ℕ) (d : A) (total : Result (List Event) ScriptError)
    → i < length items → with_event_line processors line commands (f (get_or items i d)) ≡ Ok more
    → events_from processors line commands (map f (drop i items)) ≡ total
    → events_from processors (line + 1) more (map f (drop (i + 1) items)) ≡ total
goes_on processors f line commands more items i d total inside e so_far =
    sym (line_read processors line commands more (f (get_or items i d)) (map f (drop (i + 1) items)) e)
    ∙ ap (events_from processors line commands) (sym (ap (map f) (drop_more items i d inside))) ∙ so_far

pub stops : {A : Type 0} (processors : ℕ) (f : A → List ℕ) (line : ℕ) (commands : List Event) (items : List A) (i : ℕ)
    (d : A) (r : ScriptError) (total : Result (List Event) ScriptError)
    → i < length items → with_event_line processors line commands (f (get_or items i d)) ≡ Err r
    → events_from processors line commands (map f (drop i items)) ≡ total → total ≡ Err r
stops processors f line commands items i d r total inside e so_far =
    sym so_far ∙ ap (events_from processors line commands) (ap (map f) (drop_more items i d inside))
    ∙ line_refused processors line commands (f (get_or items i d)) (map f (drop (i + 1) items)) r e

pub is_done : {A : Type 0} (processors : ℕ) (f : A → List ℕ) (line : ℕ) (commands : List Event) (items : List A) (i : ℕ)
    (total : Result (List Event) ScriptError)
    → length items ≤ i → events_from processors line commands (map f (drop i items)) ≡ total → total ≡ Ok commands
is_done {A = A} processors f line commands items i total le so_far =
    let none : drop i items ≡ [] = nil_from_length (drop i items) (omega (arith, length-drop i items)) in
    sym so_far ∙ ap (λ (xs : List A). events_from processors line commands (map f xs)) none
    ∙ no_line processors line commands
