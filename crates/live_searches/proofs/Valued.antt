-- The value of a name in what is printed.
use Rattle.std.proofs.Common.{◌≡◌, ◌∙◌, sym, ap, ℕ, List, [], ◌∷◌, Some}
use Rattle.std.specs.Prelude.{Option, option_map}
use Rattle.source_debugger.specs.meaning_points.rpp_tree.Views.{source_of}
use Rattle.source_debugger.specs.Walks.{stand_at}
use Rattle.source_debugger.specs.Standing.{Standing, trail_of, CommandsLead}
use Rattle.live_searches.specs.Goals.{SearchWatch, watch_of, shown_for}
use Rattle.live_searches.specs.Sights.{look_of}
use Rattle.live_searches.specs.Values.{value_by, variable_value_at}
use Rattle.live_searches.proofs.Looking.{look_told}

-- the line on the value that a command shows
pub valued : (before after : Standing) (watch : SearchWatch) (name text shown : List ℕ) (line : Option (List ℕ))
    → watch ≡ watch_of name → CommandsLead before (look_of watch.object ∷ []) after text → shown ≡ text
    → line ≡ value_by watch.start shown
    → variable_value_at (source_of before.program) (trail_of before) name before.position ≡ Some line
unfolding variable_value_at
valued before after watch name text shown line watch_is leads shown_is is =
    ap (λ (w : SearchWatch). option_map (value_by w.start)
    (shown_for (source_of before.program) w.object (stand_at (trail_of before) before.position))) (sym watch_is)
    ∙ ap (option_map (value_by watch.start)) (look_told before after watch.object text leads)
    ∙ ap Some (sym (is ∙ ap (value_by watch.start) shown_is))
