use Rattle.std.proofs.Common.{◌≡◌, ◌+◌, ◌++◌, subst, sym, drop, arith}
use Rattle.std.specs.Prelude.{string_bytes, suc}
use Rattle.cluster_commands.specs.ClusterShown.{filled_line, filled_lines}
use Rattle.cluster_commands.proofs.Lines.{front_cell, line_on}
use Rattle.cluster_commands.proofs.shown.add_cells.Goals as goal

pub loop-at-preserved : goal.loop-at-preserved
loop-at-preserved c =
    let n = c.loop-at.at in
    let cells = c.args.cluster.now.joint.cells in
    let next : suc n ≡ n + 1 = omega arith in
    line_on (string_bytes c.loop-at.text) (string_bytes c.add_filled.new.text) (filled_line n c.in-Some.word)
    (filled_lines (n + 1) (drop (n + 1) cells)) (filled_lines n (drop n cells)) _
    c.in_ok-add_filled.ensures (subst (λ k. filled_lines n (drop n cells)
    ≡ filled_line n c.in-Some.word ++ filled_lines k (drop k cells)) next
    (front_cell n n cells c.in-Some.word (sym c.in-Some.ensures))) c.loop-at.invariant
