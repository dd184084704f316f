use Rattle.live_searches.proofs.Single.{same_run}
use Rattle.live_searches.proofs.Returning.{returned}
use Rattle.live_searches.proofs.making.make.Goals as goal

pub returns-then-return_to-clause-stays : goal.returns-then-return_to-clause-stays
returns-then-return_to-clause-stays c = λ unmoved.
    returned c.args.debugger.now c.make_on.new.debugger c.return_to.new.debugger c.position-from.result
    c.make_on.ensures.same c.return_to.ensures.same (c.return_to.ensures.there c.if-return_to.true)
    c.position-from.ensures

pub returns-then-return_to-clause-same : goal.returns-then-return_to-clause-same
returns-then-return_to-clause-same c =
    same_run c.args.debugger.now c.make_on.new.debugger c.return_to.new.debugger
    c.make_on.ensures.same c.return_to.ensures.same

pub returns-else-return_to-clause-same : goal.returns-else-return_to-clause-same
returns-else-return_to-clause-same c =
    same_run c.args.debugger.now c.make_on.new.debugger c.return_to.new.debugger
    c.make_on.ensures.same c.return_to.ensures.same
