-- The active calls, from the open statements as they are kept.
use Rattle.std.proofs.Common.{◌≡◌, ◌∙◌, refl, sym, ap, ℕ, ◌+◌, ◌≤◌, ◌<◌, get_or, List, [], ◌∷◌, ◌++◌, map, reverse}
use Rattle.std.proofs.Common.{drop, length, Bool, false}
use Rattle.std.specs.Prelude.{Option, Some, Result, Ok, Err, IfOk}
use Rattle.std.proofs.lemmas.List.{map-append, reverse-append, reverse-reverse, drop_all, drop_more}
use Rattle.source_checks.specs.meaning_machine.Machine.{Config, Open, OpenPart}
use Rattle.source_checks.specs.source_blocks.declared.frames.Frame.{Frame}
use Rattle.source_checks.specs.source_blocks.declared.run.Run.{Run}
use Rattle.source_checks.specs.source_blocks.Opens.{open_of}
use Rattle.source_checks.specs.source_blocks.Runs.{config_of}
use Rattle.source_execution.specs.Calls.{Active, calls_along, innermost_call, active_calls}
use Rattle.source_execution.specs.Calls.{CallState, inside_part, or_inner, inside_along, inside_last, inside_call}

reverse_map : (frames : List Frame) → map open_of (reverse frames) ≡ reverse (map open_of frames)
reverse_map [] = refl
reverse_map (frame ∷ frames) =
    ap (map open_of) (reverse-append (frame ∷ []) frames) ∙ map-append open_of (reverse frames) (frame ∷ [])
    ∙ ap (λ (os : List Open). os ++ open_of frame ∷ []) (reverse_map frames)
    ∙ sym (reverse-append (open_of frame ∷ []) (map open_of frames))

outside_in : (run : Run) → reverse (config_of run).around ≡ map open_of run.frames.items
outside_in run = ap reverse (reverse_map run.frames.items) ∙ reverse-reverse (map open_of run.frames.items)

pub all_calls : (run : Run) (frames : List Frame) (n : ℕ) (back : Bool) (so_far : List Active)
    → frames ≡ run.frames.items → length frames ≤ n
    → so_far ++ calls_along back (map open_of (drop n frames)) (innermost_call (config_of run))
    ≡ calls_along false (map open_of frames) (innermost_call (config_of run))
    → so_far ++ innermost_call (config_of run) back ∷ [] ≡ active_calls (config_of run)
all_calls run frames n back so_far same past along =
    ap (λ (fs : List Frame). so_far ++ calls_along back (map open_of fs) (innermost_call (config_of run)))
    (sym (drop_all n frames past)) ∙ along
    ∙ ap (λ (fs : List Frame). calls_along false (map open_of fs) (innermost_call (config_of run))) same
    ∙ ap (λ (os : List Open). calls_along false os (innermost_call (config_of run))) (sym (outside_in run))

-- ---- the variables of one of them

last_inside : (run : Run) (depth : ℕ) (frames : List Frame) (n : ℕ) (found : Option CallState)
    → frames ≡ run.frames.items → length frames ≤ n
    → inside_along depth (map open_of (drop n frames)) (inside_last depth (config_of run))
    ≡ inside_along depth (map open_of frames) (inside_last depth (config_of run))
    → found ≡ inside_last depth (config_of run) → found ≡ inside_call depth (config_of run)
last_inside run depth frames n found same past along is =
    is
    ∙ ap (λ (fs : List Frame). inside_along depth (map open_of fs) (inside_last depth (config_of run)))
    (sym (drop_all n frames past)) ∙ along
    ∙ ap (λ (fs : List Frame). inside_along depth (map open_of fs) (inside_last depth (config_of run))) same
    ∙ ap (λ (os : List Open). inside_along depth os (inside_last depth (config_of run))) (sym (outside_in run))

found_first : (depth : ℕ) (part : OpenPart) (it : CallState) (other : Option CallState) → Some it ≡ inside_part depth part
    → Some it ≡ or_inner (inside_part depth part) other
found_first depth part it other is = rw (sym is) refl

pub this_inside : (run : Run) (depth : ℕ) (frames : List Frame) (n : ℕ) (frame : Frame) (it : CallState)
    → frames ≡ run.frames.items → n < length frames → get_or frames n frame ≡ frame
    → inside_along depth (map open_of (drop n frames)) (inside_last depth (config_of run))
    ≡ inside_along depth (map open_of frames) (inside_last depth (config_of run))
    → Some it ≡ inside_part depth (open_of frame).part → Some it ≡ inside_call depth (config_of run)
this_inside run depth frames n frame it same within item along is =
    let next : drop n frames ≡ frame ∷ drop (n + 1) frames =
    drop_more frames n frame within ∙ ap (λ (f : Frame). f ∷ drop (n + 1) frames) item in
    found_first depth (open_of frame).part it
    (inside_along depth (map open_of (drop (n + 1) frames)) (inside_last depth (config_of run))) is
    ∙ ap (λ (fs : List Frame). inside_along depth (map open_of fs) (inside_last depth (config_of run))) (sym next)
    ∙ along
    ∙ ap (λ (fs : List Frame). inside_along depth (map open_of fs) (inside_last depth (config_of run))) same
    ∙ ap (λ (os : List Open). inside_along depth os (inside_last depth (config_of run))) (sym (outside_in run))

pub last_inside_ok : {X E : Type 0} (view : X → Option CallState) (result : Result X E) (run : Run) (depth : ℕ)
    (frames : List Frame) (n : ℕ) → frames ≡ run.frames.items → length frames ≤ n
    → inside_along depth (map open_of (drop n frames)) (inside_last depth (config_of run))
    ≡ inside_along depth (map open_of frames) (inside_last depth (config_of run))
    → IfOk result (λ x. view x ≡ inside_last depth (config_of run))
    → IfOk result (λ x. view x ≡ inside_call depth (config_of run))
last_inside_ok view (Ok x) run depth frames n same past along is =
    last_inside run depth frames n (view x) same past along is
last_inside_ok view (Err e) run depth frames n same past along is = tt
