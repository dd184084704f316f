use Rattle.std.proofs.Common.{◌≡◌, sym, ap, subst, map, Bool, Some}
use Rattle.std.specs.Prelude.{IfOk}
use Rattle.source_debugger.specs.meaning_points.rpp_tree.Views.{source_of}
use Rattle.source_debugger.specs.Standing.{trail_of}
use Rattle.live_requests.specs.declared.asks.Goal.{Goal}
use Rattle.live_searches.specs.Goals.{wanted}
use Rattle.live_searches.specs.Sights.{kept_mark_of}
use Rattle.live_searches.proofs.goals.wanted.Goals as goal

pub returns-in-Points-clause-told : goal.returns-in-Points-clause-told
unfolding wanted
returns-in-Points-clause-told c =
    sym (ap (λ (g : Goal). wanted (source_of c.args.debugger.now.program) (trail_of c.args.debugger.now) g
    (map (λ word. word.now) c.args.arguments.now) (Some (kept_mark_of c.args.from.now)) c.args.debugger.now.position)
    c.in-Points.is)

pub returns-in-Any-clause-told : goal.returns-in-Any-clause-told
unfolding wanted
returns-in-Any-clause-told c =
    subst (λ (g : Goal). IfOk c.any_here.result (λ (met : Bool). met ≡ wanted (source_of c.args.debugger.now.program)
    (trail_of c.args.debugger.now) g (map (λ word. word.now) c.args.arguments.now) (Some (kept_mark_of c.args.from.now))
    c.args.debugger.now.position)) (sym c.in-Any.is) c.any_here.ensures.told

pub returns-in-Depth-clause-told : goal.returns-in-Depth-clause-told
unfolding wanted
returns-in-Depth-clause-told c =
    subst (λ (g : Goal). IfOk c.depth_here.result (λ (met : Bool). met ≡ wanted (source_of c.args.debugger.now.program)
    (trail_of c.args.debugger.now) g (map (λ word. word.now) c.args.arguments.now) (Some (kept_mark_of c.args.from.now))
    c.args.debugger.now.position)) (sym c.in-Depth.is) c.depth_here.ensures.told

pub returns-in-Change-clause-told : goal.returns-in-Change-clause-told
unfolding wanted
returns-in-Change-clause-told c =
    subst (λ (g : Goal). IfOk c.change_here.result (λ (met : Bool). met ≡ wanted (source_of c.args.debugger.now.program)
    (trail_of c.args.debugger.now) g (map (λ word. word.now) c.args.arguments.now) (Some (kept_mark_of c.args.from.now))
    c.args.debugger.now.position)) (sym c.in-Change.is) c.change_here.ensures.told

pub returns-in-Cell-clause-told : goal.returns-in-Cell-clause-told
unfolding wanted
returns-in-Cell-clause-told c =
    sym (ap (λ (g : Goal). wanted (source_of c.args.debugger.now.program) (trail_of c.args.debugger.now) g
    (map (λ word. word.now) c.args.arguments.now) (Some (kept_mark_of c.args.from.now)) c.args.debugger.now.position)
    c.in-Cell.is)
