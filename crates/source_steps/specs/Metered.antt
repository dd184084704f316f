-- A run with so much fuel.
use Rattle.std.specs.Prelude.{◌≡◌, ℕ, ◌-◌, nat_le, Option, Some, None, if◌then◌else◌}
use Rattle.std.specs.Prelude.{Result, Ok, Err}
use Rattle.source_steps.specs.declared.stop.Stop.{Stop}
use Rattle.source_steps.specs.declared.stop.Stop.TheVariants as stop
use Rattle.source_store.specs.declared.lack.Lack.TheVariants as lacking
use Rattle.source_store.specs.roopl_semantics.Run.{Run, Done, Fault, More}

-- a result or a fault with the fuel that is left, or no fuel is left
pub data Metered (A : Type 0) : Type 0 where
  Went : (result : A) (left : ℕ) → Metered A
  Stopped : (code left : ℕ) → Metered A
  Out : Metered A

-- fuel after a cost, if there is enough
abbrev pub left_of : ℕ → ℕ → Option ℕ
left_of fuel cost = if nat_le cost fuel then Some (fuel - cost) else None

abbrev pub went : {A : Type 0} → A → Option ℕ → Metered A
went result (Some left) = Went result left
went result None = Out

abbrev pub stopped_metered : {A : Type 0} → ℕ → Option ℕ → Metered A
stopped_metered code (Some left) = Stopped code left
stopped_metered code None = Out

-- what a run comes to with so much fuel
abbrev pub metered : {A : Type 0} → ℕ → Run A → Metered A
metered fuel (Done result cost) = went result (left_of fuel cost)
metered fuel (Fault code cost) = stopped_metered code (left_of fuel cost)
metered fuel More = Out

-- goes on with the fuel that is left
abbrev pub metered_chain : {A B : Type 0} → Metered A → (A → ℕ → Metered B) → Metered B
metered_chain (Went result left) next = next result left
metered_chain (Stopped code left) next = Stopped code left
metered_chain Out next = Out

-- a run that stopped so; a run that is aborted because memory ran out says nothing
abbrev pub Failed : {B : Type 0} → Stop → ℕ → Metered B → Type 0
Failed (stop.Fault code) left run = run ≡ Stopped code left
Failed stop.More left run = run ≡ Out
Failed (stop.Lacks lack) left run = Unit {0}

-- a run that stopped with a fault, or because its cost passes the fuel
abbrev pub IsOwn : Stop → Type 0
IsOwn (stop.Fault code) = Unit {0}
IsOwn stop.More = Unit {0}
IsOwn (stop.Lacks lack) = ⊥

-- or because a number is as high as it can be, but with no allocation refused
abbrev pub IsOwnOrFull : Stop → Type 0
IsOwnOrFull (stop.Fault code) = Unit {0}
IsOwnOrFull stop.More = Unit {0}
IsOwnOrFull (stop.Lacks why) = why ≡ lacking.Full

-- a run that stopped with a fault
abbrev pub IsFault : Stop → Type 0
IsFault (stop.Fault code) = Unit {0}
IsFault stop.More = ⊥
IsFault (stop.Lacks lack) = ⊥

-- this is so if a call stopped with a fault
abbrev pub OnFault : {A : Type 0} → Result A Stop → Type 0 → Type 0
OnFault (Ok a) it = Unit {0}
OnFault (Err why) it = IsFault why → it

-- what a call that returned so gave: its value, or why it stopped
abbrev pub MeteredGives : {A B : Type 0} → (A → B) → Result A Stop → ℕ → Metered B → Type 0
MeteredGives f (Ok a) left run = run ≡ Went (f a) left
MeteredGives f (Err why) left run = Failed why left run
