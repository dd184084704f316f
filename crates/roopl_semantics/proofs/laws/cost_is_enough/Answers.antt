use Rattle.roopl_semantics.proofs.CostBound.{exec_done_within, exec_fault_within}
use Rattle.roopl_semantics.proofs.laws.cost_is_enough.Goals as goal

pub returns : goal.returns
returns c =
    record {
      done = λ setting n m body start end cost h e. exec_done_within setting n m body start end cost e h;
      fault = λ setting n m body start code cost h e. exec_fault_within setting n m body start code cost e h;
    }
