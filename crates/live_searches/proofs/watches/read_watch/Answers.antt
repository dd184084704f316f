use Rattle.std.proofs.Common.{◌∙◌, sym, ap, map, Bor, List, ℕ, option_map}
use Rattle.std.specs.Prelude.{codes}
use Rattle.live_searches.specs.Goals.{cell_watch}
use Rattle.live_searches.specs.Sights.{watch_in}
use Rattle.live_searches.proofs.Watching.{this_is, other_is}
use Rattle.live_searches.proofs.watches.read_watch.Goals as goal

pub returns-in-Some : goal.returns-in-Some
returns-in-Some c =
    this_is c.args.name.now (watch_in c.in-Some.watch)
    (sym (ap (option_map watch_in) c.in-Some.is) ∙ c.in_ok-field.ensures
    ∙ ap (cell_watch (codes "  ")) (ap (λ (words : List (Bor (List ℕ))). map (λ word. word.now) words)
    c.deref.ensures.value ∙ c.in_ok-words.ensures))

pub returns : goal.returns
returns c =
    other_is c.element_or_variable.result c.args.name.now
    (sym (ap (option_map watch_in) c.in-None.is) ∙ c.in_ok-field.ensures
    ∙ ap (cell_watch (codes "  ")) (ap (λ (words : List (Bor (List ℕ))). map (λ word. word.now) words)
    c.deref.ensures.value ∙ c.in_ok-words.ensures))
    c.element_or_variable.ensures
