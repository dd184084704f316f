-- What a plan that was carried out leaves is what the whole call leaves, whose counter of machine
-- steps began at 0.
use Rattle.std.proofs.Common.{◌≡◌, refl, ℕ, List, subst}
use Rattle.std.specs.Io.KnownBytes.{Appends}
use Rattle.std.specs.declared.option.Option.{Option}
use Rattle.command_line.specs.rpp_ports.Ports.{Texts}
use Rattle.command_line.specs.rpp_probes.Tally.{Watch}
use Rattle.command_line.specs.command_plan.Plans.{Planned}
use Rattle.command_line.specs.command_plan.command_ends.Statuses.{code_of}
use Rattle.command_line.specs.Lines.{Asked}
use Rattle.rpp_command.specs.Plans.{IsPlan}
use Rattle.plan_serving.specs.Left.{Leaves}
use Rattle.rpp_command.specs.Told.{CarriesOutTold}

pub carries_out : (line : Asked) (probes kept : List Watch) (told mid after : Option Texts) (old new : Option (List ℕ))
    (p : Planned) → (count made : ℕ) → count ≡ 0 → IsPlan line probes kept count made told p → mid ≡ told
    → Appends old new p.text → Leaves mid after p.writing
    → CarriesOutTold line probes kept told after (code_of p.verdict) old new
carries_out line probes kept told mid after old new p count made none is same said left = record {
  plan = p;
  made = made;
  is_plan = subst (λ (n : ℕ). IsPlan line probes kept n made told p) none is;
  status_is = refl;
  said = said;
  left = subst (λ (texts : Option Texts). Leaves texts after p.writing) same left;
}
