use Rattle.std.proofs.Common.{subst, ap, ◌∙◌}
use Rattle.std.specs.Prelude.{string_bytes}
use Rattle.image_searches.specs.declared.moves.Step.{Step}
use Rattle.image_searches.specs.Steps.{ImageGoes}
use Rattle.image_searches.specs.Goals.{is_wanted}
use Rattle.image_searches.specs.Sights.{sought_in}
use Rattle.image_searches.proofs.Seeking.{turn_goes, turn_stops}
use Rattle.image_searches.proofs.searches.make_turn.Goals as goal

pub returns-in-Gone-clause-turned : goal.returns-in-Gone-clause-turned
returns-in-Gone-clause-turned g c =
    turn_goes c.args.way (is_wanted (sought_in c.args.aim.now)) c.args.debugger.now c.go.new.debugger
    (string_bytes c.clear.new.self) (string_bytes c.go.new.text) c.wanted.result c.judge.result
    c.clear.ensures.bytes
    (subst (λ (s : Step). ImageGoes c.args.way c.args.debugger.now (string_bytes c.clear.new.self)
    (string_bytes c.go.new.text) s) c.in-Gone.is c.go.ensures.goes)
    c.go.ensures.position
    (c.wanted.ensures ∙ ap (is_wanted (sought_in c.args.aim.now)) c.machine.ensures)
    c.judge.ensures

pub returns-in-Stuck-clause-turned : goal.returns-in-Stuck-clause-turned
returns-in-Stuck-clause-turned g c =
    turn_stops c.args.way (is_wanted (sought_in c.args.aim.now)) c.args.debugger.now
    (string_bytes c.clear.new.self) (string_bytes c.go.new.text) c.clear.ensures.bytes
    (subst (λ (s : Step). ImageGoes c.args.way c.args.debugger.now (string_bytes c.clear.new.self)
    (string_bytes c.go.new.text) s) c.in-Stuck.is c.go.ensures.goes)
