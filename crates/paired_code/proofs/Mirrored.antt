-- A fragment run back is its inverse run forward.
use Rattle.std.proofs.Common.{◌≡◌, ℕ, ◌+◌, ◌-◌, Bool, true, false, List, [], ◌∷◌, ◌++◌, length, Some, refl, sym, ap}
use Rattle.std.proofs.Common.{◌∙◌, subst, arith, length-append, append_assoc, append-nil}
use Rattle.std.specs.Prelude.{not, ℤ, pos, ◌+ℤ◌, ◌-ℤ◌}
use Rattle.std.proofs.lemmas.Int.{ints}
use Rattle.paired_code.specs.declared.part.Symbol.{Symbol}
use Rattle.paired_code.specs.declared.part.Symbol.TheVariants.{Own, Enter, Fixed, Aim, Turn}
use Rattle.code_conventions.specs.pisa_isa.Machine.{State, fetch, Memory}
use Rattle.paired_code.specs.Machine.{state, Image}
use Rattle.paired_code.specs.Layout.{bool_xor, Frame, spot, frame_address, at, base, resolved, Stands, inverse_sym}
use Rattle.paired_code.specs.Layout.{mirror_cells}
use Rattle.paired_code.specs.Pieces.{Inside, cell, open_call, in_flight, Path, stay, step, Outcome, Ends, finishes}
use Rattle.paired_code.specs.Pieces.{traps, bad, still, Will, near_end, far_end}
use Rattle.paired_code.proofs.Steps.{inverse_twice}
use Rattle.paired_code.proofs.Ways.{front, rest}

pub length_mirror : (p : List Symbol) → length (mirror_cells p) ≡ length p
length_mirror [] = refl
length_mirror (c ∷ p) = omega (arith, length-append (mirror_cells p) (inverse_sym c ∷ []), length_mirror p)

-- the line in the other direction, on which n is the sum of a cell's number and its old one, and 1
abbrev turned_base : Bool → ℤ → ℕ → ℤ
turned_base false b n = b +ℤ pos n
turned_base true b n = b -ℤ pos n

abbrev frame : Bool → ℤ → Frame
frame flip b = record { flip = flip; base = b }

abbrev other : Bool → ℤ → ℕ → Frame
other flip b n = frame (not flip) (turned_base flip b n)

other_place : (flip : Bool) (b : ℤ) (n i j : ℕ) → i + j + 1 ≡ n
    → frame_address (other flip b n) i ≡ frame_address (frame flip b) j
other_place false b n i j e = omega (arith, ints)
other_place true b n i j e = omega (arith, ints)

other_spot : (flip d : Bool) (b : ℤ) (n i j : ℕ) → i + j ≡ n
    → spot (not flip) (not d) (turned_base flip b n) i ≡ spot flip d b j
other_spot false false b n i j e = omega (arith, ints)
other_spot false true b n i j e = omega (arith, ints)
other_spot true false b n i j e = omega (arith, ints)
other_spot true true b n i j e = omega (arith, ints)

other_back : (flip d : Bool) → bool_xor (not flip) (not d) ≡ bool_xor flip d
other_back false false = refl
other_back false true = refl
other_back true false = refl
other_back true true = refl

inverse_sym_twice : (c : Symbol) → inverse_sym (inverse_sym c) ≡ c
inverse_sym_twice (Own c) = ap Own (inverse_twice c)
inverse_sym_twice (Enter r false) = refl
inverse_sym_twice (Enter r true) = refl
inverse_sym_twice (Fixed c) = refl
inverse_sym_twice (Aim false) = refl
inverse_sym_twice (Aim true) = refl
inverse_sym_twice (Turn k false false) = refl
inverse_sym_twice (Turn k false true) = refl
inverse_sym_twice (Turn k true false) = refl
inverse_sym_twice (Turn k true true) = refl

resolved_other : (im : Image) (flip : Bool) (p : ℤ) (c : Symbol)
    → resolved im flip p (inverse_sym c) ≡ resolved im (not flip) p c
resolved_other im false p c = refl
resolved_other im true p c = ap (base im.routines p) (inverse_sym_twice c)

stands_other : (im : Image) (flip : Bool) (b : ℤ) (p : List Symbol) (i i' : ℕ)
    → Stands im (frame flip b) i (mirror_cells p) → Stands im (other flip b (i + i' + length p)) i' p
stands_other im flip b [] i i' h = tt
stands_other im flip b (c ∷ p) i i' h =
    let last = (rest im (frame flip b) i (mirror_cells p) (inverse_sym c ∷ []) h).0 in
    let n = i + i' + length (c ∷ p) in
    let e : i' + (i + length (mirror_cells p)) + 1 ≡ n = omega (arith, length_mirror p) in
    let same : frame_address (other flip b n) i' ≡ frame_address (frame flip b) (i + length (mirror_cells p)) =
    other_place flip b n i' (i + length (mirror_cells p)) e in
    let k : i + (i' + 1) + length p ≡ n = omega arith in
    let there = last ∙ ap Some (resolved_other im flip (frame_address (frame flip b) (i + length (mirror_cells p))) c)
    in
    let P : ℤ → Type 0 = λ z. fetch im.code z ≡ Some (resolved im (not flip) z c) in (
      subst P (sym same) there,
      subst (λ z. Stands im (other flip b z) (i' + 1) p) k
          (stands_other im flip b p i (i' + 1) (front im (frame flip b) i (mirror_cells p) (inverse_sym c ∷ []) h)),
    )

path_by : {im : Image} {f f' : Frame} {a b a' b' k e e' : ℕ} {s s' : State}
    → ((e : ℕ) (z : ℤ) (br : ℕ) → Inside f a b e z br → Inside f' a' b' e z br) → Path im f a b k e s e' s'
    → Path im f' a' b' k e s e' s'
path_by t stay = stay
path_by t (step {e = e} {s = s} c i h n v l p) = step c (t e s.pc s.br i) h n v l (path_by t p)

inside_other : (flip : Bool) (b : ℤ) (lo hi e : ℕ) (z : ℤ) (br : ℕ) → Inside (other flip b (lo + hi)) lo hi e z br
    → Inside (frame flip b) lo hi e z br
inside_other flip b lo hi e z br (cell j l h) =
    let k : j + (lo + hi - 1 - j) + 1 ≡ lo + hi = omega arith in
    subst (λ z. Inside (frame flip b) lo hi e z br) (sym (other_place flip b (lo + hi) j (lo + hi - 1 - j) k))
    (cell (lo + hi - 1 - j) (omega arith) (omega arith))
inside_other flip b lo hi e z br open_call = open_call
inside_other flip b lo hi e z br (in_flight h) = in_flight h

at_other : (flip d : Bool) (b : ℤ) (n i j : ℕ) (m : Memory) → i + j ≡ n
    → at (other flip b n) (not d) i m ≡ at (frame flip b) d j m
at_other flip d b n i j m e =
    ap (λ z. state z 0 (bool_xor (not flip) (not d)) m) (other_spot flip d b n i j e)
    ∙ ap (λ k. state (spot flip d b j) 0 k m) (other_back flip d)

path_other : (im : Image) (flip d : Bool) (b : ℤ) (lo hi k i j e' : ℕ) (m : Memory) (s : State) → i + j ≡ lo + hi
    → Path im (other flip b (lo + hi)) lo hi k 0 (at (other flip b (lo + hi)) (not d) i m) e' s
    → Path im (frame flip b) lo hi k 0 (at (frame flip b) d j m) e' s
path_other im flip d b lo hi k i j e' m s q p =
    subst (λ t. Path im (frame flip b) lo hi k 0 t e' s) (at_other flip d b (lo + hi) i j m q)
    (path_by (inside_other flip b lo hi) p)

ends_other : (im : Image) (flip d : Bool) (b : ℤ) (lo hi i i' j j' : ℕ) (m : Memory) (o : Outcome) → i + i' ≡ lo + hi
    → j + j' ≡ lo + hi → Ends im (other flip b (lo + hi)) (not d) lo hi i m j o
    → Ends im (frame flip b) d lo hi i' m j' o
ends_other im flip d b lo hi i i' j j' m o q r (finishes {m' = m'} {k = k} w) =
    let p = path_other im flip d b lo hi k i i' 0 m _ q w.path in
    finishes (record {
      path = subst (λ t. Path im (frame flip b) lo hi k 0 (at (frame flip b) d i' m) 0 t)
          (at_other flip d b (lo + hi) j j' m' r) p;
    })
ends_other im flip d b lo hi i i' j j' m o q r (traps {k = k} h) =
    traps (record {
      last = h.last;
      depth = h.depth;
      path = path_other im flip d b lo hi k i i' h.depth m h.last q
          h.path;
      stops = h.stops;
      inside = inside_other flip b lo hi h.depth _ _ h.inside;
    })
ends_other im flip d b lo hi i i' j j' m o q r (bad {k = k} h) =
    bad (record {
      last = h.last;
      depth = h.depth;
      path = path_other im flip d b lo hi k i i' h.depth m h.last q h.path;
      stops = h.stops;
      inside = inside_other flip b lo hi h.depth _ _ h.inside;
    })
ends_other im flip d b lo hi i i' j j' m o q r (still {k = k} g) =
    still (record {
      last = g.last;
      depth = g.depth;
      path = path_other im flip d b lo hi k i i' g.depth m g.last q g.path;
    })

near_far : (d : Bool) (lo hi : ℕ) → near_end (not d) lo hi + near_end d lo hi ≡ lo + hi
near_far false lo hi = omega arith
near_far true lo hi = omega arith

far_near : (d : Bool) (lo hi : ℕ) → far_end (not d) lo hi + far_end d lo hi ≡ lo + hi
far_near false lo hi = omega arith
far_near true lo hi = omega arith

pub will_mirror : (im : Image) (p : List Symbol) (d : Bool) (m : Memory) (Q : Outcome → Type 0) → Will im p (not d) m Q
    → Will im (mirror_cells p) d m Q
will_mirror im p d m Q r = record {
  will = λ f i h st.
      let lo = i in
      let hi = i + length p in
      let l : i + length p ≡ i + length (mirror_cells p) = ap (λ z. i + z) (sym (length_mirror p)) in
      let n : i + i + length p ≡ i + (i + length p) = omega arith in
      let st' = subst (λ z. Stands im (other f.flip f.base z) i p) n (stands_other im f.flip f.base p i i st) in
      let a = r.will (other f.flip f.base (i + (i + length p))) i (omega arith) st' in
      let back = ends_other im f.flip d f.base lo hi _ (near_end d lo hi) _ (far_end d lo hi) m a.0 (near_far d lo hi)
      (far_near d lo hi) a.1 in
      (a.0, subst (λ z. Ends im f d i z (near_end d i z) m (far_end d i z) a.0) l back, a.2);
}

mirror_append : (p q : List Symbol) → mirror_cells (p ++ q) ≡ mirror_cells q ++ mirror_cells p
mirror_append [] q = sym (append-nil (mirror_cells q))
mirror_append (c ∷ p) q = ap (λ z. z ++ inverse_sym c ∷ []) (mirror_append p q)
    ∙ append_assoc (mirror_cells q) (mirror_cells p) (inverse_sym c ∷ [])

pub mirror_twice : (p : List Symbol) → mirror_cells (mirror_cells p) ≡ p
mirror_twice [] = refl
mirror_twice (c ∷ p) = mirror_append (mirror_cells p) (inverse_sym c ∷ [])
    ∙ ap (λ z. inverse_sym (inverse_sym c) ∷ z) (mirror_twice p) ∙ ap (λ z. z ∷ p) (inverse_sym_twice c)

not_twice : (d : Bool) → not (not d) ≡ d
not_twice false = refl
not_twice true = refl

-- and the other way
pub mirror_will : (im : Image) (p : List Symbol) (d : Bool) (m : Memory) (Q : Outcome → Type 0)
    → Will im (mirror_cells p) d m Q → Will im p (not d) m Q
mirror_will im p d m Q r = subst (λ z. Will im z (not d) m Q) (mirror_twice p)
    (will_mirror im (mirror_cells p) (not d) m Q (subst (λ e. Will im (mirror_cells p) e m Q) (sym (not_twice d)) r))
