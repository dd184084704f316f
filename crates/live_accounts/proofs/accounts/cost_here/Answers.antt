use Rattle.std.proofs.Common.{◌∙◌, sym, ap}
use Rattle.source_debugger.specs.source_execution.Standing.{config_at}
use Rattle.live_accounts.specs.Accounts.{account_cost_line}
use Rattle.live_accounts.proofs.accounts.cost_here.Goals as goal

pub returns : goal.returns
returns c = record {
  x = config_at c.in_ok-arrived.arrived.execution;
  there = c.in_ok-arrived.ensures.there;
  shown = c.in_ok-cost_text.ensures ∙ sym (ap account_cost_line c.in_ok-arrived.ensures.cost);
}
