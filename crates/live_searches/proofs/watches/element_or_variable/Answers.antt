use Rattle.std.proofs.Common.{◌∙◌, sym, ap, map, Bor, List, ℕ, option_map}
use Rattle.std.specs.Prelude.{codes}
use Rattle.live_requests.specs.pisa_scripts.Lines.{pieces}
use Rattle.live_searches.specs.Goals.{cell_watch, variable_watch}
use Rattle.live_searches.specs.Sights.{watch_in}
use Rattle.live_searches.proofs.Watching.{this_watch, other_watch}
use Rattle.live_searches.proofs.watches.element_or_variable.Goals as goal

pub returns-in-Some : goal.returns-in-Some
returns-in-Some c =
    this_watch (cell_watch (codes "  [") (pieces 91 c.args.name.now)) (watch_in c.in-Some.watch)
    (variable_watch c.args.name.now)
    (sym (ap (option_map watch_in) c.in-Some.is) ∙ c.in_ok-element.ensures
    ∙ ap (cell_watch (codes "  [")) (ap (λ (words : List (Bor (List ℕ))). map (λ word. word.now) words)
    c.deref.ensures.value ∙ c.in_ok-words.ensures))

pub returns : goal.returns
returns c =
    other_watch c.variable_watch.result (cell_watch (codes "  [") (pieces 91 c.args.name.now))
    (variable_watch c.args.name.now)
    (sym (ap (option_map watch_in) c.in-None.is) ∙ c.in_ok-element.ensures
    ∙ ap (cell_watch (codes "  [")) (ap (λ (words : List (Bor (List ℕ))). map (λ word. word.now) words)
    c.deref.ensures.value ∙ c.in_ok-words.ensures))
    c.variable_watch.ensures
