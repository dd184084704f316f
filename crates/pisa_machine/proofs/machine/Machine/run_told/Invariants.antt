use Rattle.std.proofs.Common.{◌≡◌, ◌+◌, ◌-◌, ◌≤◌, map, string_bytes}
use Rattle.pisa_machine.proofs.Watched.{IsTold}
use Rattle.pisa_machine.proofs.machine.Machine.run_told.Given as goal

-- the steps so far were observed, made and counted
abbrev pub invariant-loop-made : goal.invariant-loop-made
invariant-loop-made g l = record {
  told : IsTold l.initial.self.image.code l.made l.initial.self.state l.self.state
      (g.P.Probes.watches l.initial.probes) (g.P.Probes.watches l.probes)
      (map string_bytes l.initial.lines.items) (map string_bytes l.lines.items);
  image : l.self.image ≡ l.initial.self.image;
  made : l.self.made ≡ l.initial.self.made + l.made;
  counter : l.steps ≡ l.initial.steps + l.made;
  within : l.made ≤ l.bound;
}

abbrev pub decreases-loop-made : goal.decreases-loop-made
decreases-loop-made g l = l.bound - l.made
