use Rattle.std.proofs.Common.{◌≡◌, ◌≤◌, ◌++◌, length, drop}
use Rattle.run_settings.specs.Inputs.{fields_from}
use Rattle.run_settings.proofs.settable.int_fields.Given as goal

abbrev pub invariant-loop-number : goal.invariant-loop-number
invariant-loop-number l = record {
  -- the fields so far and those of what is left are the whole
  whole : l.fields.items ++ fields_from l.number (drop l.number l.vars) ≡ fields_from 0 l.vars;
  few : length l.fields.items ≤ l.number;
}
