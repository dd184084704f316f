use Rattle.std.proofs.Common.{refl, map}
use Rattle.source_debugger.specs.meaning_points.rpp_tree.Views.{source_of}
use Rattle.source_debugger.specs.Standing.{trail_of}
use Rattle.live_requests.specs.declared.asks.Goal.TheVariants.{Any, Depth, Change, Cell}
use Rattle.live_searches.proofs.Returning.{made_points, made_seek}
use Rattle.live_searches.proofs.making.make_on.Goals as goal

pub returns-in-Points-clause-told : goal.returns-in-Points-clause-told
returns-in-Points-clause-told c =
    made_points (source_of c.args.debugger.now.program) (trail_of c.args.debugger.now) c.args.ask
    (map (λ word. word.now) c.args.arguments.now) c.args.debugger.now.position c.points.new.debugger.position
    c.way.result c.points.result c.in-Points.is c.way.ensures c.points.ensures.told

pub returns-in-Any-clause-told : goal.returns-in-Any-clause-told
returns-in-Any-clause-told c =
    made_seek (source_of c.args.debugger.now.program) (trail_of c.args.debugger.now) c.args.ask
    (map (λ word. word.now) c.args.arguments.now) c.args.debugger.now.position c.seek.new.debugger.position
    Any c.seek.result c.in-Any.is refl c.seek.ensures.told

pub returns-in-Depth-clause-told : goal.returns-in-Depth-clause-told
returns-in-Depth-clause-told c =
    made_seek (source_of c.args.debugger.now.program) (trail_of c.args.debugger.now) c.args.ask
    (map (λ word. word.now) c.args.arguments.now) c.args.debugger.now.position c.seek-in-Depth.new.debugger.position
    (Depth c.in-Depth._depth) c.seek-in-Depth.result c.in-Depth.is refl c.seek-in-Depth.ensures.told

pub returns-in-Change-clause-told : goal.returns-in-Change-clause-told
returns-in-Change-clause-told c =
    made_seek (source_of c.args.debugger.now.program) (trail_of c.args.debugger.now) c.args.ask
    (map (λ word. word.now) c.args.arguments.now) c.args.debugger.now.position c.seek-in-Change.new.debugger.position
    Change c.seek-in-Change.result c.in-Change.is refl c.seek-in-Change.ensures.told

pub returns-in-Cell-clause-told : goal.returns-in-Cell-clause-told
returns-in-Cell-clause-told c =
    made_seek (source_of c.args.debugger.now.program) (trail_of c.args.debugger.now) c.args.ask
    (map (λ word. word.now) c.args.arguments.now) c.args.debugger.now.position c.seek-in-Cell.new.debugger.position
    (Cell c.in-Cell._address) c.seek-in-Cell.result c.in-Cell.is refl c.seek-in-Cell.ensures.told
