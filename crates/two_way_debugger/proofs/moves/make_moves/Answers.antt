use Rattle.two_way_debugger.proofs.Walking.{walk_within}
use Rattle.two_way_debugger.proofs.moves.make_moves.Goals as goal

pub returns-in-None-clause-within : goal.returns-in-None-clause-within
returns-in-None-clause-within g c = walk_within c.args.backward c.args.place c.args.most c.args.machine.now
