-- The active calls, as they are kept.
use Rattle.std.specs.Prelude.{map}
use Rattle.source_execution.specs.declared.calls.Active.{Active as Held}
use Rattle.source_execution.specs.declared.calls.CallState.{CallState as Copied}
use Rattle.source_execution.specs.Variables.{binding_of}
use Rattle.source_execution.specs.Calls.{Active, CallState}

abbrev pub active_of : Held → Active
active_of it = record { place = it.place; object = it.object; depth = it.depth; back = it.back }

abbrev pub inside_of : Copied → CallState
inside_of it = record {
  self = it.object;
  params = it.params;
  frame = map binding_of it.variables.items;
}
