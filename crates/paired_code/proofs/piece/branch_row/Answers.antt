use Rattle.paired_code.proofs.Contract.{branch_built}
use Rattle.paired_code.proofs.piece.branch_row.Goals as goal

pub returns : goal.returns
returns c = branch_built _ _ _ _ _ _ _ _ _ _ _ _ _ _ _ _ _ _ _ c.len-no_size.ensures.count
    c.len-yes_size.ensures.count c.ahead.ensures c.behind.ensures c.ahead-2.ensures c.behind-2.ensures
    c.behind-3.ensures c.new-cells.ensures c.in_ok-put_fork.ensures c.in_ok-append.ensures
    c.in_ok-put_jump.ensures c.in_ok-put_fork-2.ensures c.in_ok-append-2.ensures c.in_ok-put_fork-3.ensures
    c.in_ok-put_jump-2.ensures c.in_ok-put_fork-4.ensures
