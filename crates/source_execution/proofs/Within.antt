-- A run with so much fuel, and a run within it.
use Rattle.std.proofs.Common.{◌≡◌, ℕ, ◌-◌, ◌≤◌, refl, arith, Bool, true, false, if◌then◌else◌, Some, None}
use Rattle.std.proofs.lemmas.Bool.{leb-true}
use Rattle.std.specs.Prelude.{nat_le}
use Rattle.source_checks.specs.roopl_semantics.Run.{Run, Done, Fault, More}
use Rattle.source_checks.specs.roopl_semantics.Source.{within}
use Rattle.source_checks.specs.source_steps.Metered.{Went, Stopped, went, stopped_metered, metered}

by_done : {A : Type 0} (t : Bool) (fuel cost : ℕ) (x end : A) (left : ℕ) → (t ≡ true → cost ≤ fuel)
    → went x (if t then Some (fuel - cost) else None) ≡ Went end left
    → (if t then Done x cost else More) ≡ Done end (fuel - left)
by_done true fuel cost x end left h e =
    let l : cost ≤ fuel = h refl in
    let same : x ≡ end = cc in
    let k : fuel - cost ≡ left = cc in
    let c : cost ≡ fuel - left = omega arith in
    cc
by_done false fuel cost x end left h e = cc

by_fault : {A : Type 0} (t : Bool) (fuel cost x code left : ℕ) → (t ≡ true → cost ≤ fuel)
    → stopped_metered {A = A} x (if t then Some (fuel - cost) else None) ≡ Stopped code left
    → if◌then◌else◌ {A = Run A} t (Fault x cost) More ≡ Fault code (fuel - left)
by_fault true fuel cost x code left h e =
    let l : cost ≤ fuel = h refl in
    let same : x ≡ code = cc in
    let k : fuel - cost ≡ left = cc in
    let c : cost ≡ fuel - left = omega arith in
    cc
by_fault false fuel cost x code left h e = cc

no_fault : {A : Type 0} (t : Bool) (fuel cost : ℕ) (x : A) (code left : ℕ)
    → went x (if t then Some (fuel - cost) else None) ≡ Stopped code left → ⊥
no_fault true fuel cost x code left e = cc
no_fault false fuel cost x code left e = cc

no_end : {A : Type 0} (t : Bool) (fuel cost code : ℕ) (end : A) (left : ℕ)
    → stopped_metered code (if t then Some (fuel - cost) else None) ≡ Went end left → ⊥
no_end true fuel cost code end left e = cc
no_end false fuel cost code end left e = cc

pub ends_done : {A : Type 0} (fuel : ℕ) (run : Run A) (end : A) (left : ℕ) → metered fuel run ≡ Went end left
    → within fuel run ≡ Done end (fuel - left)
ends_done fuel (Done x cost) end left e = by_done (nat_le cost fuel) fuel cost x end left (leb-true cost fuel) e
ends_done fuel (Fault code cost) end left e = absurd (no_end (nat_le cost fuel) fuel cost code end left e)
ends_done fuel More end left e = cc

pub ends_fault : {A : Type 0} (fuel : ℕ) (run : Run A) (code left : ℕ) → metered fuel run ≡ Stopped code left
    → within fuel run ≡ Fault code (fuel - left)
ends_fault fuel (Done x cost) code left e = absurd (no_fault (nat_le cost fuel) fuel cost x code left e)
ends_fault fuel (Fault x cost) code left e = by_fault (nat_le cost fuel) fuel cost x code left (leb-true cost fuel) e
ends_fault fuel More code left e = cc
