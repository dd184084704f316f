use Rattle.source_debugger.proofs.Longer.{more_fuel_tells}
use Rattle.source_debugger.proofs.laws.more_fuel_tells.Goals as goal

pub returns : goal.returns
returns c = more_fuel_tells
