use Rattle.std.proofs.Common.{subst}
use Rattle.std.specs.Prelude.{string_bytes}
use Rattle.image_searches.specs.declared.moves.Step.{Step}
use Rattle.image_searches.specs.Steps.{ImageGoes}
use Rattle.image_searches.proofs.Moving.{moved_on}
use Rattle.image_searches.proofs.Listing.{listing_begins, listing_goes, listing_stops, listing_over}
use Rattle.image_searches.proofs.lists.points.Goals as goal

pub loop-init : goal.loop-init
loop-init g c = listing_begins c.args.way c.args.most c.args.debugger.now (string_bytes c.new-text.result)
    c.new-text.ensures.bytes

pub loop-preserved : goal.loop-preserved
loop-preserved g c =
    listing_goes c.args.way c.args.most c.loop.counter c.args.debugger.now c.loop.debugger c.go.new.debugger
    (string_bytes c.loop.text) (string_bytes c.go.new.text) c.loop-test.true c.loop.invariant
    (subst (λ (s : Step). ImageGoes c.args.way c.loop.debugger (string_bytes c.loop.text) (string_bytes c.go.new.text) s)
    c.in-Gone.is c.go.ensures.goes) c.go.ensures.position

pub returns-in-Stuck-clause-found : goal.returns-in-Stuck-clause-found
returns-in-Stuck-clause-found g c =
    listing_stops c.args.way c.args.most c.loop.counter c.args.debugger.now c.loop.debugger c.go.new.debugger
    (string_bytes c.loop.text) (string_bytes c.go.new.text) c.loop-test.true c.loop.invariant
    (subst (λ (s : Step). ImageGoes c.args.way c.loop.debugger (string_bytes c.loop.text) (string_bytes c.go.new.text) s)
    c.in-Stuck.is c.go.ensures.goes) c.go.ensures.position

pub returns-in-Lost-clause-lost : goal.returns-in-Lost-clause-lost
returns-in-Lost-clause-lost g c =
    moved_on c.args.way c.args.most c.loop.counter c.args.debugger.now c.loop.debugger c.go.new.debugger
    c.loop-test.true c.loop.invariant.moved c.go.ensures.position

pub returns-clause-found : goal.returns-clause-found
returns-clause-found g c =
    listing_over c.args.way c.args.most c.loop.counter c.args.debugger.now c.loop.debugger (string_bytes c.loop.text)
    c.loop-test.false c.loop.invariant
