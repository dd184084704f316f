-- What a word says to watch.
use Rattle.std.proofs.Common.{◌≡◌, ◌∙◌, ap, List, ℕ, Some, None, Result, Ok, Err}
use Rattle.std.specs.Prelude.{Option, IfOk, codes}
use Rattle.live_requests.specs.pisa_scripts.Lines.{pieces}
use Rattle.live_searches.specs.declared.watches.Watch.{Watch as KeptWatch}
use Rattle.live_searches.specs.Goals.{SearchWatch, cell_watch, or_watch, variable_watch, watch_of}
use Rattle.live_searches.specs.Sights.{watch_in}

-- a cell that a word names, or else another watch
pub this_watch : (o : Option SearchWatch) (watch other : SearchWatch) → Some watch ≡ o → watch ≡ or_watch o other
this_watch o watch other e = ap (λ (u : Option SearchWatch). or_watch u other) e

pub other_watch : {E : Type 0} (result : Result KeptWatch E) (o : Option SearchWatch) (other : SearchWatch) → None ≡ o
    → IfOk result (λ (w : KeptWatch). watch_in w ≡ other)
    → IfOk result (λ (w : KeptWatch). watch_in w ≡ or_watch o other)
other_watch (Ok w) o other e h = h ∙ ap (λ (u : Option SearchWatch). or_watch u other) e
other_watch (Err why) o other e h = tt

-- the watch of a word that names no field
abbrev pub element_watch : List ℕ → SearchWatch
element_watch name = or_watch (cell_watch (codes "  [") (pieces 91 name)) (variable_watch name)

pub this_is : (name : List ℕ) (watch : SearchWatch) → Some watch ≡ cell_watch (codes "  ") (pieces 46 name)
    → watch ≡ watch_of name
unfolding watch_of
this_is name watch e = this_watch (cell_watch (codes "  ") (pieces 46 name)) watch (element_watch name) e

pub other_is : {E : Type 0} (result : Result KeptWatch E) (name : List ℕ)
    → None ≡ cell_watch (codes "  ") (pieces 46 name)
    → IfOk result (λ (w : KeptWatch). watch_in w ≡ element_watch name)
    → IfOk result (λ (w : KeptWatch). watch_in w ≡ watch_of name)
unfolding watch_of
other_is result name e h = other_watch result (cell_watch (codes "  ") (pieces 46 name)) (element_watch name) e h
