-- Moves forward with no place to end at, as one run of the machine makes them.
use Rattle.std.proofs.Common.{◌≡◌, ◌∙◌, ℕ, zero, suc, ◌+◌, ◌-◌, ◌<◌, ◌≤◌, refl, sym, ap, Bool, true, false, cond, Option, Some, None, arith}
use Rattle.std.specs.Prelude.{nat_lt, option_map}
use Rattle.std.proofs.lemmas.Bool.Decides.{nat_tests}
use Rattle.pisa_scripts.specs.pisa_isa.declared.machine.Stop.{Stop}
use Rattle.pisa_scripts.specs.pisa_isa.Machine.{State, stop, next, fetch}
use Rattle.pisa_scripts.specs.pisa_isa.Runs.{End, run, counted, after_step, stop_at_bound}
use Rattle.pisa_machine.specs.Position.{Position}
use Rattle.two_way_debugger.specs.declared.moves.TheConstants.{LAST_POSITION}
use Rattle.two_way_debugger.specs.declared.moves.Ending.{Ending}
use Rattle.two_way_debugger.specs.declared.moves.Ending.TheVariants.{Made, Last, Stopped}
use Rattle.two_way_debugger.specs.Moves.{MachineWalk, moved_position, later_walk, unless_ended, machine_walk}
use Rattle.two_way_debugger.proofs.OneStep.{same_position}
use Rattle.pisa_machine.proofs.Legs.{end_of}
use Rattle.pisa_scripts.proofs.pisa_isa_laws.Reached.{counted-stop_at_bound}

abbrev walked : Position → Ending → ℕ → MachineWalk
walked q ending spent = record { position = q; ending = ending; spent = spent }

later_none : (w : MachineWalk) → w ≡ later_walk 0 w
later_none w =
    let none : w.spent ≡ 0 + w.spent = omega arith in
    ap (λ (s : ℕ). record w { spent = s }) none

-- what a run of n steps says of the requested moves from p: all n were made and k are left, or it
-- stopped
pub record Ran (n k : ℕ) (p q : Position) (why : Stop) (spent : ℕ) : Type 0 where
  pub all : q.made ≡ p.made + n → machine_walk false None (n + k) p ≡ later_walk spent (machine_walk false None k q)
  pub some : (q.made ≡ p.made + n → ⊥) → machine_walk false None (n + k) p ≡ walked q (Stopped why) spent

pub ran : (n k : ℕ) (p q : Position) (why : Stop) (spent : ℕ) → p.made + n ≤ LAST_POSITION → q.image ≡ p.image
    → run p.image.code n p.state ≡ end_of why spent q.state → q.made + counted why ≡ p.made + spent
    → Ran n k p q why spent
ran zero k p q why spent room images r count = record { all = all; some = some }
  where
    why_is : why ≡ stop_at_bound (fetch p.image.code p.state.pc) p.state.pc
    why_is = ap (λ (e : End). e.why) (sym r)

    none : counted why ≡ 0
    none = ap counted why_is ∙ counted-stop_at_bound (fetch p.image.code p.state.pc) p.state.pc

    spent_is : 0 ≡ spent
    spent_is = ap (λ (e : End). e.spent) r

    states : p.state ≡ q.state
    states = ap (λ (e : End). e.last) r

    same : p ≡ q
    same = same_position p q (sym images) states (omega (arith, none, spent_is, count))

    all : q.made ≡ p.made + 0 → machine_walk false None (0 + k) p ≡ later_walk spent (machine_walk false None k q)
    all h =
        let front : 0 + k ≡ k = omega arith in
        ap (λ (m : ℕ). machine_walk false None m p) front
        ∙ ap (λ (x : Position). machine_walk false None k x) same ∙ later_none (machine_walk false None k q)
        ∙ ap (λ (s : ℕ). later_walk s (machine_walk false None k q)) spent_is

    some : (q.made ≡ p.made + 0 → ⊥) → machine_walk false None (0 + k) p ≡ walked q (Stopped why) spent
    some h = absurd (h (omega (arith, none, spent_is, count)))
ran (suc n) k p q why spent room images r count =
    by_stop (ran n k (moved_position false p) q) (stop p.image.code p.state) refl r
  where
    rest : End
    rest = run p.image.code n (next p.image.code p.state)

    onward : MachineWalk
    onward = machine_walk false None (n + k) (moved_position false p)

    below : nat_lt p.made LAST_POSITION ≡ true
    below = let less : p.made < LAST_POSITION = omega (arith, room) in grind (arith, nat_tests)

    by_first : (o : Option Stop) → stop p.image.code p.state ≡ o
        → machine_walk false None (suc n + k) p ≡ unless_ended (option_map Stopped o) p onward
    by_first o is =
        let one : suc n + k ≡ suc (n + k) = omega arith in
        ap (λ (m : ℕ). machine_walk false None m p) one
        ∙ ap (λ (b : Bool). unless_ended (cond b (option_map Stopped (stop p.image.code p.state)) (Some Last)) p onward)
        below
        ∙ ap (λ (x : Option Stop). unless_ended (option_map Stopped x) p onward) is

    After : Type 0
    After = (why : Stop) (spent : ℕ) → suc p.made + n ≤ LAST_POSITION → q.image ≡ p.image
        → run p.image.code n (next p.image.code p.state) ≡ end_of why spent q.state
        → q.made + counted why ≡ suc p.made + spent → Ran n k (moved_position false p) q why spent

    by_stop : After → (o : Option Stop) → stop p.image.code p.state ≡ o
        → after_step o p.state rest ≡ end_of why spent q.state → Ran (suc n) k p q why spent
    by_stop after (Some e) is h =
        let why_is : e ≡ why = ap (λ (x : End). x.why) h in
        let counts : counted e ≡ counted why = ap counted why_is in
        let spent_is : counted e ≡ spent = ap (λ (x : End). x.spent) h in
        let states : p.state ≡ q.state = ap (λ (x : End). x.last) h in
        let made_is : p.made ≡ q.made = omega (arith, counts, spent_is, count) in
        let same : p ≡ q = same_position p q (sym images) states made_is in
        record {
          all = λ all. absurd (omega (arith, all, made_is));
          some = λ _. by_first (Some e) is
              ∙ ap (λ (x : Position). walked x (Stopped e) (counted e)) same
              ∙ ap (λ (x : Stop). walked q (Stopped x) (counted e)) why_is
              ∙ ap (λ (s : ℕ). walked q (Stopped why) s) spent_is;
        }
    by_stop after None is h =
        let why_is : rest.why ≡ why = ap (λ (x : End). x.why) h in
        let counts : counted rest.why ≡ counted why = ap counted why_is in
        let spent_is : suc rest.spent ≡ spent = ap (λ (x : End). x.spent) h in
        let states : rest.last ≡ q.state = ap (λ (x : End). x.last) h in
        let given : Ran n k (moved_position false p) q rest.why rest.spent =
        after rest.why rest.spent (omega (arith, room)) images
        (ap (λ (m : State). end_of rest.why rest.spent m) states) (omega (arith, counts, spent_is, count)) in
        let w : MachineWalk = machine_walk false None k q in
        record {
          all = λ all.
              let sum : suc (rest.spent + w.spent) ≡ spent + w.spent = omega (arith, spent_is) in
              by_first None is
              ∙ ap (λ (x : MachineWalk). record x { spent = suc x.spent }) (given.all (omega (arith, all)))
              ∙ ap (λ (s : ℕ). record w { spent = s }) sum;
          some = λ some.
              by_first None is
              ∙ ap (λ (x : MachineWalk). record x { spent = suc x.spent }) (given.some (λ all. some (omega (arith, all))))
              ∙ ap (λ (x : Stop). walked q (Stopped x) (suc rest.spent)) why_is
              ∙ ap (λ (s : ℕ). walked q (Stopped why) s) spent_is;
        }

-- after the last position no move is made
pub no_room : (k : ℕ) (q : Position) → LAST_POSITION ≤ q.made → machine_walk false None (suc k) q ≡ walked q Last 0
no_room k q full =
    let not_below : nat_lt q.made LAST_POSITION ≡ false = grind (arith, nat_tests, full) in
    ap (λ (b : Bool). unless_ended (cond b (option_map Stopped (stop q.image.code q.state)) (Some Last)) q
    (machine_walk false None k (moved_position false q))) not_below

-- a run that stopped before it made all its steps
pub stopped : (most bound : ℕ) (p q : Position) (why : Stop) (spent : ℕ) → bound ≤ most → p.made + bound ≤ LAST_POSITION
    → q.image ≡ p.image → run p.image.code bound p.state ≡ end_of why spent q.state
    → q.made + counted why ≡ p.made + spent → (q.made ≡ p.made + bound → ⊥)
    → machine_walk false None most p ≡ walked q (Stopped why) spent
stopped most bound p q why spent within room images r count some =
    let sum : most ≡ bound + (most - bound) = omega (arith, within) in
    ap (λ (m : ℕ). machine_walk false None m p) sum
    ∙ (ran bound (most - bound) p q why spent room images r count).some some

-- a run that made all requested moves
pub all_made : (most bound : ℕ) (p q : Position) (why : Stop) (spent : ℕ) → bound ≡ most → p.made + bound ≤ LAST_POSITION
    → q.image ≡ p.image → run p.image.code bound p.state ≡ end_of why spent q.state
    → q.made + counted why ≡ p.made + spent → q.made ≡ p.made + bound
    → machine_walk false None most p ≡ walked q Made spent
all_made most bound p q why spent same room images r count all =
    let sum : most ≡ bound + 0 = omega (arith, same) in
    let last : spent + 0 ≡ spent = omega arith in
    ap (λ (m : ℕ). machine_walk false None m p) sum
    ∙ (ran bound 0 p q why spent room images r count).all all
    ∙ ap (λ (s : ℕ). walked q Made s) last

-- a run that came to the last position
pub at_last : (most bound : ℕ) (p q : Position) (why : Stop) (spent : ℕ) → bound < most → p.made + bound ≤ LAST_POSITION
    → q.image ≡ p.image → run p.image.code bound p.state ≡ end_of why spent q.state
    → q.made + counted why ≡ p.made + spent → q.made ≡ p.made + bound → LAST_POSITION ≤ q.made
    → machine_walk false None most p ≡ walked q Last spent
at_last most bound p q why spent less room images r count all full =
    let j : ℕ = most - (bound + 1) in
    let sum : most ≡ bound + suc j = omega (arith, less) in
    let last : spent + 0 ≡ spent = omega arith in
    ap (λ (m : ℕ). machine_walk false None m p) sum
    ∙ (ran bound (suc j) p q why spent room images r count).all all
    ∙ ap (λ (w : MachineWalk). later_walk spent w) (no_room j q full)
    ∙ ap (λ (s : ℕ). walked q Last s) last
