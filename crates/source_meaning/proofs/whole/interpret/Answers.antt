use Rattle.source_execution.specs.rpp_tree.Views.{source_of}
use Rattle.source_meaning.proofs.Ending.{stays_so, comes_back}
use Rattle.source_meaning.proofs.whole.interpret.Goals as goal

pub returns-clause-more : goal.returns-clause-more
returns-clause-more c = stays_so c.run_whole.result (source_of c.args.checked.now) c.args.limits
    c.args.input.now.words.items c.args.fuel c.run_whole.ensures

pub returns-clause-back : goal.returns-clause-back
returns-clause-back c = comes_back c.run_whole.result (source_of c.args.checked.now) c.args.limits
    c.args.input.now.words.items c.args.fuel c.program.ensures.accepted c.requires.limits c.requires.valid
    c.run_whole.ensures
