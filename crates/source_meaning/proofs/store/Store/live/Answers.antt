use Rattle.std.proofs.Common.{◌∙◌, ap}
use Rattle.source_execution.specs.roopl_semantics.Report.{live_count}
use Rattle.source_meaning.proofs.store.Store.live.Goals as goal

pub returns : goal.returns
returns c = c.self.invariant.2 ∙ ap live_count c.self.view_is
