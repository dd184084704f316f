use Rattle.std.proofs.Common.{subst}
use Rattle.std.specs.Prelude.{string_bytes}
use Rattle.live_searches.specs.declared.moves.Step.{Step}
use Rattle.live_searches.specs.Steps.{Goes}
use Rattle.live_searches.proofs.Single.{same_run, same_as}
use Rattle.live_searches.proofs.Listing.{listing_begins, listing_goes, listing_stops, listing_over}
use Rattle.live_searches.proofs.lists.points.Goals as goal

pub loop-init : goal.loop-init
loop-init c = listing_begins c.args.debugger.now c.args.way c.args.most (string_bytes c.new-text.result)
    c.new-text.ensures.bytes

pub loop-preserved : goal.loop-preserved
loop-preserved c =
    listing_goes c.args.debugger.now c.loop.debugger c.go.new.debugger c.args.way c.args.most c.loop.counter
    (string_bytes c.loop.text) (string_bytes c.go.new.text) c.loop-test.true c.loop.invariant
    (subst (λ (s : Step). Goes c.loop.debugger c.args.way c.go.new.debugger (string_bytes c.loop.text)
    (string_bytes c.go.new.text) s) c.in-Gone.is c.go.ensures)

pub returns-in-Stuck-clause-told : goal.returns-in-Stuck-clause-told
returns-in-Stuck-clause-told c =
    listing_stops c.args.debugger.now c.loop.debugger c.go.new.debugger c.args.way c.args.most c.loop.counter
    (string_bytes c.loop.text) (string_bytes c.go.new.text) c.loop-test.true c.loop.invariant
    (subst (λ (s : Step). Goes c.loop.debugger c.args.way c.go.new.debugger (string_bytes c.loop.text)
    (string_bytes c.go.new.text) s) c.in-Stuck.is c.go.ensures)

pub returns-in-Stuck-clause-same : goal.returns-in-Stuck-clause-same
returns-in-Stuck-clause-same c =
    let goes = subst (λ (s : Step). Goes c.loop.debugger c.args.way c.go.new.debugger (string_bytes c.loop.text)
    (string_bytes c.go.new.text) s) c.in-Stuck.is c.go.ensures in
    same_run c.args.debugger.now c.loop.debugger c.go.new.debugger c.loop.invariant.same goes.0.same

pub returns-in-Lost-clause-same : goal.returns-in-Lost-clause-same
returns-in-Lost-clause-same c =
    same_as c.args.debugger.now c.loop.debugger c.go.new.debugger c.loop.invariant.same
    (subst (λ (s : Step). Goes c.loop.debugger c.args.way c.go.new.debugger (string_bytes c.loop.text)
    (string_bytes c.go.new.text) s) c.in-Lost.is c.go.ensures)

pub returns-clause-told : goal.returns-clause-told
returns-clause-told c =
    listing_over c.args.debugger.now c.loop.debugger c.args.way c.args.most c.loop.counter (string_bytes c.loop.text)
    c.loop-test.false c.loop.invariant

pub returns-clause-same : goal.returns-clause-same
returns-clause-same c = c.loop.invariant.same
