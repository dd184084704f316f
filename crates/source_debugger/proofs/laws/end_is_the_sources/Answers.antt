use Rattle.source_debugger.proofs.Finished.{end_is_the_sources}
use Rattle.source_debugger.proofs.laws.end_is_the_sources.Goals as goal

pub returns : goal.returns
returns c = end_is_the_sources
