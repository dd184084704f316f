-- What a plan writes.
use Rattle.std.proofs.Common.{◌≡◌, ℕ, List, subst, sym}
use Rattle.std.specs.declared.option.Option.{Option}
use Rattle.command_plan.specs.Plans.{Planned, WritesOnly}

pub along : (p q : Planned) (name : Option (List ℕ)) → p ≡ q → WritesOnly q name → WritesOnly p name
along p q name e h = subst (λ r. WritesOnly r name) (sym e) h
