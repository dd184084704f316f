use Rattle.std.proofs.Common.{refl, map}
use Rattle.live_requests.specs.declared.asks.Goal.TheVariants.{Any, Depth, Change, Cell}
use Rattle.image_searches.proofs.Asking.{made_points, made_seek}
use Rattle.image_searches.proofs.making.make.Goals as goal

pub returns-in-Points-clause-found : goal.returns-in-Points-clause-found
returns-in-Points-clause-found g c =
    made_points c.args.ask (map (λ word. word.now) c.args.arguments.now) c.args.debugger.now c.points.new.debugger
    c.way.result c.points.result c.in-Points.is c.way.ensures c.points.ensures.found

pub returns-in-Any-clause-found : goal.returns-in-Any-clause-found
returns-in-Any-clause-found g c =
    made_seek c.args.ask (map (λ word. word.now) c.args.arguments.now) c.args.debugger.now c.seek.new.debugger
    Any c.seek.result c.in-Any.is refl c.seek.ensures.found

pub returns-in-Depth-clause-found : goal.returns-in-Depth-clause-found
returns-in-Depth-clause-found g c =
    made_seek c.args.ask (map (λ word. word.now) c.args.arguments.now) c.args.debugger.now
    c.seek-in-Depth.new.debugger (Depth c.in-Depth._depth) c.seek-in-Depth.result c.in-Depth.is refl
    c.seek-in-Depth.ensures.found

pub returns-in-Change-clause-found : goal.returns-in-Change-clause-found
returns-in-Change-clause-found g c =
    made_seek c.args.ask (map (λ word. word.now) c.args.arguments.now) c.args.debugger.now
    c.seek-in-Change.new.debugger Change c.seek-in-Change.result c.in-Change.is refl c.seek-in-Change.ensures.found

pub returns-in-Cell-clause-found : goal.returns-in-Cell-clause-found
returns-in-Cell-clause-found g c =
    made_seek c.args.ask (map (λ word. word.now) c.args.arguments.now) c.args.debugger.now
    c.seek-in-Cell.new.debugger (Cell c.in-Cell._at) c.seek-in-Cell.result c.in-Cell.is refl
    c.seek-in-Cell.ensures.found
