-- The limits that a run can have.
use Rattle.std.specs.Prelude.{◌≤◌}
use Rattle.rpp_words.specs.declared.input.Limits.{Limits}
use Rattle.rpp_words.specs.declared.input.TheConstants.{MOST_HEAP, MOST_DEEP}

-- the sizes of heap and stack that a run can have
pub record IsLimits (limits : Limits) : Type 0 where
  pub heap_from : 1 ≤ limits.heap
  pub heap_to : limits.heap ≤ MOST_HEAP
  pub deep_from : 1 ≤ limits.deep
  pub deep_to : limits.deep ≤ MOST_DEEP
