use Rattle.std.proofs.Common.{subst, refl, map}
use Rattle.std.specs.Prelude.{string_bytes}
use Rattle.live_requests.specs.pisa_scripts.declared.command.Command.{Command}
use Rattle.live_searches.specs.declared.moves.Outcome.TheVariants.{Stopped}
use Rattle.live_searches.specs.declared.moves.Step.{Step}
use Rattle.live_searches.specs.declared.moves.Step.TheVariants.{Gone, Stuck}
use Rattle.live_searches.specs.Steps.{Goes}
use Rattle.live_searches.specs.Sights.{kept_mark_of}
use Rattle.live_searches.proofs.Single.{goes_same, same_as}
use Rattle.live_searches.proofs.Seeking.{turn_goes, turn_stops}
use Rattle.live_searches.proofs.searches.make_turn.Goals as goal
use Rattle.live_requests.specs.Asks.{way_of}

pub returns-in-Gone-clause-turned : goal.returns-in-Gone-clause-turned
returns-in-Gone-clause-turned c =
    turn_goes c.args.debugger.now c.go.new.debugger c.judge.new.debugger (way_of c.args.ask.back) c.args.ask.goal
    (map (λ word. word.now) c.args.arguments.now) (kept_mark_of c.args.from.now) (string_bytes c.new-line.result)
    (string_bytes c.go.new.text) c.judge.result c.new-line.ensures.bytes
    (subst (λ (w : Command). Goes c.args.debugger.now w c.go.new.debugger (string_bytes c.new-line.result)
    (string_bytes c.go.new.text) Gone) c.way.ensures
    (subst (λ (s : Step). Goes c.args.debugger.now c.way.result c.go.new.debugger (string_bytes c.new-line.result)
    (string_bytes c.go.new.text) s) c.in-Gone.is c.go.ensures))
    c.judge.ensures.stays c.judge.ensures.judged

pub returns-in-Gone-clause-same : goal.returns-in-Gone-clause-same
returns-in-Gone-clause-same c =
    same_as c.args.debugger.now c.go.new.debugger c.judge.new.debugger
    (goes_same c.args.debugger.now c.go.new.debugger c.way.result (string_bytes c.new-line.result)
    (string_bytes c.go.new.text) c.go.result c.go.ensures) c.judge.ensures.stays

pub returns-in-Stuck-clause-turned : goal.returns-in-Stuck-clause-turned
returns-in-Stuck-clause-turned c =
    turn_stops c.args.debugger.now c.go.new.debugger (way_of c.args.ask.back) c.args.ask.goal
    (map (λ word. word.now) c.args.arguments.now) (kept_mark_of c.args.from.now) (string_bytes c.new-line.result)
    (string_bytes c.go.new.text) (record { text = c.go.new.text; how = Stopped }) c.new-line.ensures.bytes
    (subst (λ (w : Command). Goes c.args.debugger.now w c.go.new.debugger (string_bytes c.new-line.result)
    (string_bytes c.go.new.text) Stuck) c.way.ensures
    (subst (λ (s : Step). Goes c.args.debugger.now c.way.result c.go.new.debugger (string_bytes c.new-line.result)
    (string_bytes c.go.new.text) s) c.in-Stuck.is c.go.ensures))
    refl refl

pub returns-in-Stuck-clause-same : goal.returns-in-Stuck-clause-same
returns-in-Stuck-clause-same c =
    goes_same c.args.debugger.now c.go.new.debugger c.way.result (string_bytes c.new-line.result)
    (string_bytes c.go.new.text) c.go.result c.go.ensures

pub returns-in-Lost-clause-same : goal.returns-in-Lost-clause-same
returns-in-Lost-clause-same c =
    goes_same c.args.debugger.now c.go.new.debugger c.way.result (string_bytes c.new-line.result)
    (string_bytes c.go.new.text) c.go.result c.go.ensures
