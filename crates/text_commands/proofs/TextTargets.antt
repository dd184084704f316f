-- A plan of a command that writes a source text writes its target, or nothing.
use Rattle.std.proofs.Common.{ℕ, List, Some, Ok, Err, inl, inr, refl}
use Rattle.std.specs.Prelude.{Result}
use Rattle.std.specs.declared.option.Option.{Option}
use Rattle.command_plan.specs.rpp_ports.Ports.{Texts}
use Rattle.roopl_judge.specs.rpp_tree.Tree.{Source}
use Rattle.roopl_judge.specs.class_rules.Refusal.{Refusal}
use Rattle.command_plan.specs.Plans.{Planned, WritesOnly}
use Rattle.text_commands.specs.TextPlans.{WritesInverse, Generates, ShowsInverse}
use Rattle.command_plan.proofs.Writes.{along}

pub generates_writes : (seed size : ℕ) (out : List ℕ) (told : Option Texts) (p : Planned)
    → Generates seed size out told p
    → WritesOnly p (Some out)
generates_writes seed size out told p h = along p _ (Some out) h (inr refl)

inverse_writes : (judgement : Result Source Refusal) (name : List ℕ) (p : Planned) → WritesInverse judgement name p
    → WritesOnly p (Some name)
inverse_writes (Err refusal) name p h = along p _ (Some name) h (inl refl)
inverse_writes (Ok program) name p h = along p _ (Some name) h (inr refl)

pub shows_inverse_writes : (file out : List ℕ) (told : Option Texts) (p : Planned) → ShowsInverse file out told p
    → WritesOnly p (Some out)
shows_inverse_writes file out told p h = inverse_writes h.holds.judgement out p h.holds.plan
