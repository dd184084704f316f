use Rattle.std.specs.Prelude.{◌≡◌, drop, map, None, option_map}
use Rattle.live_searches.specs.Values.{last_value}
use Rattle.live_searches.proofs.values.last_value.Given as goal

-- the value of the last line that begins so is that of the lines to come, or else the one so far
abbrev pub invariant-loop-line : goal.invariant-loop-line
invariant-loop-line l =
    last_value l.start (option_map (λ value. value.now) l.best) (map (λ line. line.now) (drop l.line-index l.lines))
    ≡ last_value l.start None (map (λ line. line.now) l.lines)
