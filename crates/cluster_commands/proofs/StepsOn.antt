-- Steps of a processor, one after the other.
use Rattle.std.proofs.Common.{◌≡◌, ap, subst, refl, ℕ, suc, ◌+◌, ◌-◌, ◌<◌, arith, Option, Some, None}
use Rattle.pisa_cluster.specs.pisa_isa.declared.machine.Stop.{Stop}
use Rattle.pisa_cluster.specs.declared.cluster.Moved.TheVariants.{Made, Stopped}
use Rattle.pisa_cluster.specs.Schedules.{Schedule, ProcessorMoves}
use Rattle.cluster_commands.specs.ClusterShown.{MakesSteps}

-- what is left to make leads on from here
abbrev pub LeadsOn : (who count made : ℕ) → (start c : Schedule) → Type 0
LeadsOn who count made start c =
    (more : ℕ) (stop : Option Stop) (e : Schedule) → MakesSteps who (count - made) more stop c e
    → MakesSteps who count (made + more) stop start e

left_next : (count made : ℕ) → made < count → suc (count - (made + 1)) ≡ count - made
left_next count made lt = omega (arith, lt)

pub one_more : (who count made serial : ℕ) (start c d : Schedule) → made < count → ProcessorMoves who (Made serial) c d
    → LeadsOn who count made start c → LeadsOn who count (made + 1) start d
one_more who count made serial start c d lt moves go more stop e rest =
    let sum : made + suc more ≡ made + 1 + more = omega arith in
    subst (λ n. MakesSteps who count n stop start e) sum
    (go (suc more) stop e (subst (λ n. MakesSteps who n (suc more) stop c e) (left_next count made lt)
    (Made serial, d, moves, (more, refl, rest))))

pub stopped_at : (who count made : ℕ) (why : Stop) (start c d : Schedule) → made < count
    → ProcessorMoves who (Stopped why) c d
    → LeadsOn who count made start c → MakesSteps who count made (Some why) start d
stopped_at who count made why start c d lt moves go =
    let sum : made + 0 ≡ made = omega arith in
    subst (λ n. MakesSteps who count n (Some why) start d) sum
    (go 0 (Some why) d (subst (λ n. MakesSteps who n 0 (Some why) c d) (left_next count made lt)
    (Stopped why, d, moves, (refl, refl, refl))))

pub all_made : (who count : ℕ) (start c : Schedule) → LeadsOn who count count start c
    → MakesSteps who count count None start c
all_made who count start c go =
    let sum : count + 0 ≡ count = omega arith in
    let none : 0 ≡ count - count = omega arith in
    subst (λ n. MakesSteps who count n None start c) sum (go 0 None c
    (subst (λ n. MakesSteps who n 0 None c c) none (refl, refl, refl)))

-- the serial number of the step after one that is made
pub next_serial_after : (who serial : ℕ) (c d : Schedule) → ProcessorMoves who (Made serial) c d
    → d.next_serial ≡ c.next_serial + 1
next_serial_after who serial c d moves = ap (λ (s : Schedule). s.next_serial) moves.leads
