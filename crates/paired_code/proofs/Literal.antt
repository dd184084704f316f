-- A run by the rules is a run in the words of the machine.
use Rattle.std.proofs.Common.{◌≡◌, ℕ, ◌+◌, ◌<◌, ◌≤◌, Bool, true, false, List, length, Some, None, refl, sym, subst}
use Rattle.std.proofs.Common.{arith}
use Rattle.std.specs.Prelude.{ℤ}
use Rattle.std.proofs.lemmas.Int.{ints}
use Rattle.paired_code.specs.declared.part.Symbol.{Symbol}
use Rattle.code_conventions.specs.pisa_isa.Machine.{State, stop, stop_at, moved, effect_at, Memory, memory_of}
use Rattle.code_conventions.specs.pisa_isa.declared.machine.Stop.{Stop}
use Rattle.code_conventions.specs.pisa_isa.declared.machine.Stop.TheVariants.{Trap, BadAddress}
use Rattle.paired_code.specs.Machine.{Image, act, Change, Level, same, enters, leaves}
use Rattle.paired_code.specs.Layout.{Frame, spot, code_line}
use Rattle.paired_code.specs.Pieces.{Inside, cell, open_call, in_flight, Path, stay, step, Outcome, Done, Trapped, Bad}
use Rattle.paired_code.specs.Pieces.{Still, Ends, finishes, traps, bad, still, near_end, far_end}
use Rattle.paired_code.specs.Literal.{change_opened, change_at, Coming, Comes, LiteralStops, LiteralStays, Said, InWords}

-- a cell of the fragment is not the place beyond its far end
not_far : (flip d : Bool) (g : ℤ) (a b i : ℕ) → a ≤ i → i < b → spot flip false g i ≡ spot flip d g (far_end d a b) → ⊥
not_far false false g a b i l h e = omega (arith, ints)
not_far false true g a b i l h e = omega (arith, ints)
not_far true false g a b i l h e = omega (arith, ints)
not_far true true g a b i l h e = omega (arith, ints)

pub not_coming : (f : Frame) (d k : Bool) (a b e : ℕ) (z : ℤ) (br : ℕ) → Inside f a b e z br → e ≡ 0
    → z ≡ spot f.flip d f.base (far_end d a b) → br ≡ 0 → ⊥
not_coming f d k a b e z br (cell i l h) ze zp zb = not_far f.flip d f.base a b i l h zp
not_coming f d k a b e z br open_call ze zp zb = omega arith
not_coming f d k a b e z br (in_flight h) ze zp zb = omega arith

pub level_opened : {g : Change} {e e1 : ℕ} → Level g e e1 → change_opened g e ≡ e1
level_opened same = refl
level_opened enters = omega arith
level_opened leaves = omega arith

module _ (im : Image) (f : Frame) (d : Bool) (a b : ℕ) (k : Bool) where
  abbrev far : ℤ
  far = spot f.flip d f.base (far_end d a b)

  before : (e : ℕ) (s : State) → Inside f a b e s.pc s.br → ¬ Coming far k e s
  before e s i c = not_coming f d k a b e s.pc s.br i c.closed c.place c.free

  pub path_comes : {n e e' : ℕ} {s s' : State} (m : Memory) → Path im f a b n e s e' s'
      → Coming far k e' s' × (memory_of s' ≡ m) → Comes im far k n e s m
  path_comes m stay q = q
  path_comes m (step {k = n} {e = e} {s = s} c i h g v l p) q = (
    before e s i,
    subst (λ o. stop_at o s ≡ None) (sym h) g,
    subst (λ o. Comes im far k n (change_opened (change_at im.routines o s) e) (moved (effect_at o s)) m) (sym h)
        (subst (λ y. Comes im far k n y (act c s) m) (sym (level_opened l)) (path_comes m p q)),
  )

  pub path_stops : {n e e' : ℕ} {s s' : State} (why : Stop) → Path im f a b n e s e' s' → Inside f a b e' s'.pc s'.br
      → stop im.code s' ≡ Some why → LiteralStops im far k why n e s
  path_stops why (stay {e = e} {s = s}) j y = (before e s j, y)
  path_stops why (step {k = n} {e = e} {s = s} c i h g v l p) j y = (
    before e s i,
    subst (λ o. stop_at o s ≡ None) (sym h) g,
    subst (λ o. LiteralStops im far k why n (change_opened (change_at im.routines o s) e) (moved (effect_at o s))) (sym h)
        (subst (λ z. LiteralStops im far k why n z (act c s)) (sym (level_opened l)) (path_stops why p j y)),
  )

module _ (im : Image) (f : Frame) (d : Bool) (a b : ℕ) (k : Bool) where
  pub path_stays : {n e e' : ℕ} {s s' : State} → Path im f a b n e s e' s'
      → LiteralStays im (spot f.flip d f.base (far_end d a b)) k n e s
  path_stays stay = tt
  path_stays (step {k = n} {e = e} {s = s} c i h g v l p) = (
    λ z. not_coming f d k a b e s.pc s.br i z.closed z.place z.free,
    subst (λ o. stop_at o s ≡ None) (sym h) g,
    subst (λ o. LiteralStays im (spot f.flip d f.base (far_end d a b)) k n (change_opened (change_at im.routines o s) e)
        (moved (effect_at o s))) (sym h) (subst (λ y. LiteralStays im (spot f.flip d f.base (far_end d a b)) k n y
        (act c s)) (sym (level_opened l)) (path_stays p)),
  )

-- each outcome, in the words of the machine
said : (im : Image) (a : ℕ) (p : List Symbol) (d : Bool) (m : Memory) (o : Outcome)
    → Ends im code_line d a (a + length p) (near_end d a (a + length p)) m (far_end d a (a + length p)) o
    → Said im a p d m o
said im a p d m (Done m' k) (finishes w) = path_comes im code_line d a (a + length p) d m' w.path
    (record { closed = refl; place = refl; direction = refl; free = refl }, refl)
said im a p d m (Trapped w k) (traps h) = path_stops im code_line d a (a + length p) d (Trap w) h.path h.inside h.stops
said im a p d m (Bad w k) (bad h) = path_stops im code_line d a (a + length p) d (BadAddress w) h.path h.inside h.stops
said im a p d m (Still k) (still g) = path_stays im code_line d a (a + length p) d g.path

pub in_words : (im : Image) → InWords im
in_words im p a d m o st h r = said im a p d m o (r.run code_line a h st)
