use Rattle.std.proofs.Common.{◌≡◌, ◌-◌, ap, sym, ◌∙◌, arith, true}
use Rattle.std.specs.Prelude.{string_bytes}
use Rattle.std.specs.Str.{bytes_eq}
use Rattle.row_parts.specs.Names.{filled_once, filled_times}
use Rattle.row_parts.proofs.Rounds.{no_round, one_round, last_is, same_bytes}
use Rattle.row_parts.proofs.names.Names.filled_times.Goals as goal

pub returns-then-is_same : goal.returns-then-is_same
returns-then-is_same c =
    let names = c.args.self.now in
    let made = string_bytes c.loop-rounds.made in
    let next = string_bytes c.in_ok-next.next in
    let is_next : next ≡ filled_once names made =
    c.in_ok-next.ensures ∙ ap (filled_once names) c.as_str.ensures.value in
    let test : bytes_eq next made ≡ true = cc in
    last_is c.loop-rounds.rounds names made next _ is_next (same_bytes next made test) c.loop-rounds.invariant

pub loop-rounds-preserved : goal.loop-rounds-preserved
loop-rounds-preserved c =
    let names = c.args.self.now in
    let made = string_bytes c.loop-rounds.made in
    ap (filled_times (c.loop-rounds.rounds - 1) names)
    (c.in_ok-next.ensures ∙ ap (filled_once names) c.as_str.ensures.value)
    ∙ (sym (one_round c.loop-rounds.rounds names made (omega arith)) ∙ c.loop-rounds.invariant)

pub returns : goal.returns
returns c =
    let names = c.args.self.now in
    let made = string_bytes c.loop-rounds.made in
    sym (no_round names made)
    ∙ ap (λ rounds. filled_times rounds names made) (omega arith) ∙ c.loop-rounds.invariant
