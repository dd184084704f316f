-- What a broken plan leaves is what the whole call leaves, which began before the plan was made.
use Rattle.std.proofs.Common.{◌≡◌, refl, ℕ, ◌≤◌, List, None, Some, inl, inr, IsSomeAnd, subst}
use Rattle.std.specs.Io.KnownBytes.{Keeps}
use Rattle.std.specs.declared.option.Option.{Option}
use Rattle.command_line.specs.rpp_ports.Ports.{Texts, Rose}
use Rattle.command_line.specs.rpp_probes.Tally.{Watch}
use Rattle.command_line.specs.command_plan.Plans.{Planned, Written}
use Rattle.command_line.specs.command_plan.command_ends.declared.status.Broken.{Broken}
use Rattle.command_line.specs.command_plan.command_ends.declared.status.Broken.TheVariants.{Outside, NoMemory}
use Rattle.command_line.specs.Lines.{Asked, Turn, Profile}
use Rattle.rpp_command.specs.Plans.{IsPlan, LeavesProbes}
use Rattle.plan_serving.specs.Left.{LeavesUnwritten, AbortsServing}
use Rattle.rpp_command.specs.Told.{EndsEarly}
use Rattle.plan_serving.proofs.Fetched.{rose_before}

-- another rise of the file store's count is as good

unwritten_by : (before after : Option Texts) (rose rose' failed lacks : Type 0) (old new : Option (List ℕ))
    (w : Written) (broken : Broken) → (rose → rose')
    → LeavesUnwritten before after rose failed lacks old new w broken
    → LeavesUnwritten before after rose' failed lacks old new w broken
unwritten_by before after rose rose' failed lacks old new w NoMemory f h = h
unwritten_by before after rose rose' failed lacks old new w Outside f h = (f h.0, h.1)

file_by : (before after : Option Texts) (rose rose' failed lacks : Type 0) (old new : Option (List ℕ))
    (writing : Option Written) (broken : Broken) → (rose → rose')
    → IsSomeAnd writing (λ w. LeavesUnwritten before after rose failed lacks old new w broken)
    → IsSomeAnd writing (λ w. LeavesUnwritten before after rose' failed lacks old new w broken)
file_by before after rose rose' failed lacks old new None broken f h = absurd h
file_by before after rose rose' failed lacks old new (Some w) broken f h =
    unwritten_by before after rose rose' failed lacks old new w broken f h

breaks_by : (before after : Option Texts) (rose rose' failed lacks : Type 0) (old new : Option (List ℕ)) (p : Planned)
    (broken : Broken) → (rose → rose')
    → AbortsServing before after rose failed lacks old new p broken
    → AbortsServing before after rose' failed lacks old new p broken
breaks_by before after rose rose' failed lacks old new p broken f (inl at_file) =
    inl (file_by before after rose rose' failed lacks old new p.writing broken f at_file)
breaks_by before after rose rose' failed lacks old new p broken f (inr at_text) = inr at_text

-- a plan of the line was aborted
pub ends_early : (line : Asked) (probes kept : List Watch) (told mid after : Option Texts) (before at now : ℕ)
    (failed lacks : Type 0) (old new : Option (List ℕ)) (p : Planned) (broken : Broken)
    → (count made : ℕ) → count ≡ 0 → IsPlan line probes kept count made told p → mid ≡ told → before ≤ at
    → AbortsServing mid after (Rose at now) failed lacks old new p broken
    → EndsEarly (Some line) probes kept told (Rose before now) failed lacks after old new broken
ends_early line probes kept told mid after before at now failed lacks old new p broken count made none is same later h =
    inr (record {
      plan = p;
      made = made;
      is_plan = subst (λ (n : ℕ). IsPlan line probes kept n made told p) none is;
      broken_off = breaks_by told after (Rose at now) (Rose before now) failed lacks old new p broken
          (rose_before before at now later)
          (subst (λ (texts : Option Texts). AbortsServing texts after (Rose at now) failed lacks old new p broken) same
          h);
    })

keeps_same : (written : Option (List ℕ)) → Keeps written written
keeps_same None = tt
keeps_same (Some xs) = refl

pub leaves_same : (line : Asked) (probes : List Watch) (told : Option Texts) → LeavesProbes line probes probes told
unfolding LeavesProbes
leaves_same (Turn file sizes input) probes told = inl refl
leaves_same (Profile file sizes) probes told = inl refl
leaves_same _ probes told = refl

-- no memory was found to read the words, and all is as before
pub untouched : (line : Option Asked) (probes : List Watch) (told : Option Texts) (rose failed lacks : Type 0)
    (written : Option (List ℕ)) → EndsEarly line probes probes told rose failed lacks told written written NoMemory
untouched None probes told rose failed lacks written = (refl, keeps_same written)
untouched (Some line) probes told rose failed lacks written =
    inl (refl, (keeps_same written, leaves_same line probes told))
