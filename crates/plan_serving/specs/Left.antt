-- What is left of files and of the output where a plan is carried out, or aborted.
use Rattle.std.specs.Prelude.{◌≡◌, ◌⊎◌, ℕ, List, ⊤, None, Some, IsSomeAnd}
use Rattle.std.specs.declared.option.Option.{Option}
use Rattle.std.specs.Io.KnownBytes.{Appends, Keeps}
use Rattle.command_plan.specs.rpp_ports.Ports.{Texts, KeepsOthers, SetsText, LeavesAfter, AppendsPrefix}
use Rattle.command_plan.specs.rpp_ports.declared.shelf.ShelfFault.TheVariants.{Failed}
use Rattle.command_plan.specs.Plans.{Written, Planned}
use Rattle.command_plan.specs.command_ends.declared.status.Broken.{Broken}
use Rattle.command_plan.specs.command_ends.declared.status.Broken.TheVariants.{Outside, NoMemory}
use Rattle.plan_serving.specs.Finishes.{unwritten}

-- the file is written and other names stay, or the map is as before
abbrev pub Leaves : Option Texts → Option Texts → Option Written → Type 0
Leaves old new None = new ≡ old
Leaves old new (Some w) = SetsText old new w.name w.bytes

-- a map of known contents stays known, and each name except the target keeps its contents
abbrev pub KeepsButTarget : Option Texts → Option Texts → Option (List ℕ) → Type 0
KeepsButTarget None new name = ⊤
KeepsButTarget (Some old) None name = ⊥
KeepsButTarget (Some old) (Some new) None = (n : List ℕ) → new n ≡ old n
KeepsButTarget (Some old) (Some new) (Some name) = KeepsOthers old new name

-- each name has the text that it had
abbrev pub SameTexts : Option Texts → Option Texts → Type 0
SameTexts None after = ⊤
SameTexts (Some old) None = ⊥
SameTexts (Some old) (Some new) = (n : List ℕ) → new n ≡ old n

-- a text was printed whole, or the sink failed and some of it was
abbrev pub Says : (failed : Type 0) → (old new : Option (List ℕ)) → (text : List ℕ) → Type 0
Says failed old new text = Appends old new text ⊎ (failed × AppendsPrefix old new text)

-- the same, or the sink needs memory and found none for the text
abbrev pub Tries : (failed lacks : Type 0) → (old new : Option (List ℕ)) → (text : List ℕ) → Type 0
Tries failed lacks old new text = Says failed old new text ⊎ (lacks × Keeps old new)

-- What is left of a write that was aborted: if memory ran out, all is as before. Otherwise the file
-- store failed, the name has its old contents or any, and the line on it was tried.
abbrev pub LeavesUnwritten : (before after : Option Texts) → (rose failed lacks : Type 0)
    → (old new : Option (List ℕ)) → Written → Broken → Type 0
LeavesUnwritten before after rose failed lacks old new w NoMemory =
    Keeps old new × SameTexts before after
LeavesUnwritten before after rose failed lacks old new w Outside =
    rose × (LeavesAfter before after w.name Failed × Tries failed lacks old new (unwritten w.name))

-- what is left if the text was not printed whole: nothing of it if the sink needs memory and
-- found none, else, if the sink failed, some of it
abbrev pub LeavesUnsaid : (failed lacks : Type 0) → (old new : Option (List ℕ)) → (text : List ℕ)
    → Broken → Type 0
LeavesUnsaid failed lacks old new text NoMemory = lacks × Keeps old new
LeavesUnsaid failed lacks old new text Outside = failed × AppendsPrefix old new text

-- a plan was aborted: at its file, or, with the file written, at its text
abbrev pub AbortsServing : (before after : Option Texts) → (rose failed lacks : Type 0)
    → (old new : Option (List ℕ)) → Planned → Broken → Type 0
AbortsServing before after rose failed lacks old new p broken =
    IsSomeAnd p.writing (λ w. LeavesUnwritten before after rose failed lacks old new w broken)
    ⊎ (Leaves before after p.writing × LeavesUnsaid failed lacks old new p.text broken)
