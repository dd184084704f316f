-- The image that is linked: its cells, and its run from START on.
use Rattle.std.proofs.Common.{◌≡◌, ℕ, zero, suc, ◌+◌, ◌^◌, ◌<◌, ◌≤◌, List, [], ◌∷◌, ◌++◌, length, Option, Some, None}
use Rattle.std.proofs.Common.{refl, sym, ap, ◌∙◌, subst, arith, Bool, true, false}
use Rattle.std.specs.Prelude.{ℤ, pos, negsuc, slice_index, cond, count_by, IsTrue, IsFalse, not, ◌&&◌, if◌then◌else◌}
use Rattle.std.specs.List.{All}
use Rattle.std.proofs.lemmas.List.Elements.{All-cons, All-nil}
use Rattle.std.proofs.lemmas.List.Sums.{sum_by-append}
use Rattle.code_conventions.specs.pisa_isa.declared.cell.Op.{Op}
use Rattle.code_conventions.specs.pisa_isa.declared.cell.Op.TheVariants.{Start, Finish}
use Rattle.code_conventions.specs.pisa_isa.declared.cell.Cell.{Cell}
use Rattle.code_conventions.specs.pisa_isa.declared.machine.Stop.{Stop}
use Rattle.code_conventions.specs.pisa_isa.declared.machine.Stop.TheVariants.{Finished, Returned, Trap, BadAddress, OffCode, Bound}
use Rattle.code_conventions.specs.pisa_isa.Table.{IsCell}
use Rattle.code_conventions.specs.pisa_isa.Machine.{State, fetch, stop, stop_in, stop_at, is_zero_word, next, moved, effect_at, Memory}
use Rattle.code_conventions.specs.pisa_isa.Image.{is_start, is_finish, is_start_op, is_finish_op}
use Rattle.code_conventions.specs.pisa_isa.Runs.{run, steps, started, unless_stop, visited, before_step, later, counted}
use Rattle.code_conventions.specs.pisa_isa.Ends.{is_at_start, is_at_finish, cell_is, MeetsEndsOnce}
use Rattle.code_conventions.proofs.pisa_isa_laws.Longer.{run-steps}
use Rattle.code_conventions.proofs.pisa_isa_laws.Runs.{run-stop}
use Rattle.code_conventions.specs.Cells.{neg, addi, bra}
use Rattle.paired_code.specs.Cells.{swapbr, rbra, start_cell, finish}
use Rattle.paired_code.specs.declared.part.Symbol.{Symbol}
use Rattle.paired_code.specs.declared.part.Symbol.TheVariants.{Own, Enter, Fixed, Aim, Turn}
use Rattle.paired_code.specs.Machine.{state, Image, is_end_op, is_end}
use Rattle.paired_code.specs.Layout.{base, between, offset_to, aim, six, code_line, Frame, at, Routine, Tidy}
use Rattle.paired_code.specs.Fit.{IsInner, IsFit, AllSymbolsFit, EachFit}
use Rattle.paired_code.specs.Pieces.{Path, stay, step, Outcome, Done, Trapped, Bad, Still, Ends, finishes, traps, bad}
use Rattle.paired_code.specs.Pieces.{still, Will}
use Rattle.paired_code.specs.Link.{link_positions, linked, routine_code, routines_code, first_top, link_code, link_image}
use Rattle.paired_code.specs.Link.{link_size, AllPlaced, StopsAfter, GoesSo, IsToldBy, Whole, Linked}
use Rattle.paired_code.specs.Closed.{Shape, IsShapeMade, AllMade, cells_of_shape, shapes_cells, shape_at, top_at}
use Rattle.paired_code.specs.Closed.{routines_of, RoutinesStand}
use Rattle.paired_code.proofs.Fits.{inner_bra, word_between}
use Rattle.paired_code.proofs.Literal.{in_words}
use Rattle.paired_code.proofs.Closed.{closed}
use Rattle.paired_code.proofs.Call.{on_line}
use Rattle.paired_code.proofs.Linking.{main_there, finish_there, routines_there, tidy}

-- ---- the cells

abbrev pub AllInner : List Cell → Type 0
AllInner [] = Unit {0}
AllInner (c ∷ p) = IsInner c × AllInner p

inner_addi : (w : ℕ) → w < 2 ^ 32 → IsInner (addi 2 w)
inner_addi w h = record {
  holds = record {
    in_range = record
        { a_in = omega arith; b_in = omega arith; c_in = omega arith; imm_in = h };
    one_to_one = refl;
  };
  no_end = refl;
}

inner_rbra : (w : ℕ) → w < 2 ^ 32 → IsInner (rbra w)
inner_rbra w h = record {
  holds = record {
    in_range = record
        { a_in = omega arith; b_in = omega arith; c_in = omega arith; imm_in = h };
    one_to_one = refl;
  };
  no_end = refl;
}

inner_swapbr : IsInner (swapbr 2)
inner_swapbr = record {
  holds = record {
    in_range = record
        { a_in = omega arith; b_in = omega arith; c_in = omega arith; imm_in = omega arith };
    one_to_one = refl;
  };
  no_end = refl;
}

inner_neg : IsInner (neg 2)
inner_neg = record {
  holds = record {
    in_range = record
        { a_in = omega arith; b_in = omega arith; c_in = omega arith; imm_in = omega arith };
    one_to_one = refl;
  };
  no_end = refl;
}

word_offset : (n : ℕ) (z : ℤ) → offset_to n z < 2 ^ 32
word_offset n (pos p) = word_between p n
word_offset n (negsuc p) = omega arith

word_aim : (b : Bool) (z : ℤ) → aim b z < 2 ^ 32
word_aim false (pos p) = omega arith
word_aim true (pos p) = omega arith
word_aim b (negsuc p) = omega arith

word_six : (b : Bool) → six b < 2 ^ 32
word_six false = word_between 0 6
word_six true = word_between 6 0

inner_base : (rs : List ℕ) (z : ℤ) (c : Symbol) → IsFit c → IsInner (base rs z c)
inner_base rs z (Own c) h = h
inner_base rs z (Enter r false) h = inner_bra (offset_to (slice_index rs r) z) (word_offset (slice_index rs r) z)
inner_base rs z (Enter r true) h = inner_rbra (offset_to (slice_index rs r) z) (word_offset (slice_index rs r) z)
inner_base rs z (Fixed c) h = h
inner_base rs z (Aim b) h = inner_addi (aim b z) (word_aim b z)
inner_base rs z (Turn k b false) h = inner_addi 0 (omega arith)
inner_base rs z (Turn false b true) h = inner_bra (six b) (word_six b)
inner_base rs z (Turn true b true) h = inner_rbra (six b) (word_six b)

pub inner_linked : (rs : List ℕ) (a : ℕ) (p : List Symbol) → AllSymbolsFit p → AllInner (linked rs a p)
inner_linked rs a [] h = tt
inner_linked rs a (c ∷ p) h = (inner_base rs (pos a) c h.0, inner_linked rs (a + 1) p h.1)

inner_append : (xs ys : List Cell) → AllInner xs → AllInner ys → AllInner (xs ++ ys)
inner_append [] ys h k = k
inner_append (x ∷ xs) ys h k = (h.0, inner_append xs ys h.1 k)

inner_jump : (x y : ℕ) → IsInner (bra (between x y))
inner_jump x y = inner_bra (between x y) (word_between x y)

inner_routines : (rs : List ℕ) (t : ℕ) (bs : List (List Symbol)) → EachFit bs → AllInner (routines_code rs t bs)
inner_routines rs t [] h = tt
inner_routines rs t (b ∷ bs) h =
    inner_append (routine_code rs t b) (routines_code rs (t + 1 + 1 + 1 + length b + 1) bs) (
      inner_jump t (t + 1 + 1 + 1 + length b),
      (
        inner_swapbr,
        (
          inner_neg,
          inner_append (linked rs (t + 1 + 1 + 1) b) (bra (between (t + 1 + 1 + 1 + length b) t) ∷ [])
              (inner_linked rs (t + 1 + 1 + 1) b h.0) (inner_jump (t + 1 + 1 + 1 + length b) t, tt),
        ),
      ),
    )
    (inner_routines rs (t + 1 + 1 + 1 + length b + 1) bs h.1)

cells_append : (xs ys : List Cell) → AllInner xs → All IsCell ys → All IsCell (xs ++ ys)
cells_append [] ys h k = k
cells_append (x ∷ xs) ys h k = All-cons IsCell x (xs ++ ys) h.0.holds (cells_append xs ys h.1 k)

cells_inner : (xs : List Cell) → AllInner xs → All IsCell xs
cells_inner [] h = All-nil IsCell
cells_inner (x ∷ xs) h = All-cons IsCell x xs h.0.holds (cells_inner xs h.1)

cell_start : IsCell start_cell
cell_start = record {
  in_range = record {
    a_in = omega arith;
    b_in = omega arith;
    c_in = omega arith;
    imm_in = omega arith;
  };
  one_to_one = refl;
}

cell_finish : IsCell finish
cell_finish = record {
  in_range = record {
    a_in = omega arith;
    b_in = omega arith;
    c_in = omega arith;
    imm_in = omega arith;
  };
  one_to_one = refl;
}

pub cells_all : (main : List Symbol) (bodies : List (List Symbol)) → AllSymbolsFit main → EachFit bodies
    → All IsCell (link_code main bodies)
cells_all main bodies fit fits =
    let rs = link_positions (first_top main) bodies in
    let a = linked rs 1 main in
    let b = routines_code rs (first_top main) bodies in
    All-cons IsCell start_cell (a ++ finish ∷ b) cell_start (cells_append a (finish ∷ b) (inner_linked rs 1 main fit)
    (All-cons IsCell finish b cell_finish (cells_inner b (inner_routines rs (first_top main) bodies fits))))

start_by : (op : Op) → is_end_op op ≡ false → is_start_op op ≡ false
start_by Start h = cc
start_by Finish h = cc
start_by _ h = refl

finish_by : (op : Op) → is_end_op op ≡ false → is_finish_op op ≡ false
finish_by Start h = cc
finish_by Finish h = cc
finish_by _ h = refl

no_start : (c : Cell) → is_end c ≡ false → is_start c ≡ false
no_start c h = start_by c.op h

no_finish : (c : Cell) → is_end c ≡ false → is_finish c ≡ false
no_finish c h = finish_by c.op h

none_of : (p : Cell → Bool) → ((c : Cell) → is_end c ≡ false → p c ≡ false) → (xs : List Cell) → AllInner xs
    → count_by p xs ≡ 0
none_of p never [] h = refl
none_of p never (c ∷ xs) h =
    let e : count_by p (c ∷ xs) ≡ count_by p (c ∷ []) + count_by p xs =
    sum_by-append (λ x. cond (p x) 1 0) (c ∷ []) xs in
    let z : count_by p (c ∷ []) ≡ 0 = ap (λ t. 0 + cond t 1 0) (never c h.0.no_end) in
    let r = none_of p never xs h.1 in
    omega arith

count_code : (p : Cell → Bool) → ((c : Cell) → is_end c ≡ false → p c ≡ false) → (a b : List Cell) → AllInner a
    → AllInner b → count_by p (start_cell ∷ (a ++ finish ∷ b)) ≡ count_by p (start_cell ∷ []) + count_by p (finish ∷ [])
count_code p never a b ha hb =
    let e1 : count_by p (start_cell ∷ (a ++ finish ∷ b)) ≡ count_by p (start_cell ∷ []) + count_by p (a ++ finish ∷ b) =
    sum_by-append (λ x. cond (p x) 1 0) (start_cell ∷ []) (a ++ finish ∷ b) in
    let e2 : count_by p (a ++ finish ∷ b) ≡ count_by p a + count_by p (finish ∷ b) =
    sum_by-append (λ x. cond (p x) 1 0) a (finish ∷ b) in
    let e3 : count_by p (finish ∷ b) ≡ count_by p (finish ∷ []) + count_by p b =
    sum_by-append (λ x. cond (p x) 1 0) (finish ∷ []) b in
    let z1 = none_of p never a ha in
    let z2 = none_of p never b hb in
    omega arith

pub one_start : (main : List Symbol) (bodies : List (List Symbol)) → AllSymbolsFit main → EachFit bodies
    → count_by is_start (link_code main bodies) ≡ 1
one_start main bodies fit fits = count_code is_start no_start _ _ (inner_linked _ 1 main fit)
    (inner_routines _ (first_top main) bodies fits)

pub one_finish : (main : List Symbol) (bodies : List (List Symbol)) → AllSymbolsFit main → EachFit bodies
    → count_by is_finish (link_code main bodies) ≡ 1
one_finish main bodies fit fits = count_code is_finish no_finish _ _ (inner_linked _ 1 main fit)
    (inner_routines _ (first_top main) bodies fits)

-- ---- the run

-- so many steps lead from a state to another, none at START or FINISH and none a stop
data Clean (code : List Cell) : ℕ → State → State → Type 0 where
  none : {s : State} → Clean code 0 s s
  more : {k : ℕ} {s s' : State} → stop code s ≡ None → cell_is is_end (fetch code s.pc) ≡ false
      → Clean code k (next code s) s' → Clean code (suc k) s s'

clean_of : {im : Image} {f : Frame} {a b k e e' : ℕ} {s s' : State} → Path im f a b k e s e' s' → Clean im.code k s s'
clean_of stay = none
clean_of {im = im} {s' = s'} (step {k = k} {s = s} c i h n v l p) =
    more (subst (λ o. stop_at o s ≡ None) (sym h) n) (ap (cell_is is_end) h ∙ v)
    (subst (λ o. Clean im.code k (moved (effect_at o s)) s') (sym h) (clean_of p))

clean_steps : {code : List Cell} {k : ℕ} {s s' : State} → Clean code k s s' → steps code k s ≡ Some s'
clean_steps none = refl
clean_steps {code = code} (more {k = k} {s = s} n v c) = ap (λ o. unless_stop o (steps code k (next code s))) n
    ∙ clean_steps c

-- no state that is passed is at START, and one at FINISH finishes
record Passes (code : List Cell) (s : State) : Type 0 where
  no_start : IsFalse (is_at_start code s)
  finishes : IsTrue (is_at_finish code s) → stop code s ≡ Some Finished

no_start_at : (o : Option Cell) → cell_is is_end o ≡ false → cell_is is_start o ≡ false
no_start_at None h = refl
no_start_at (Some c) h = no_start c h

no_finish_at : (o : Option Cell) → cell_is is_end o ≡ false → cell_is is_finish o ≡ false
no_finish_at None h = refl
no_finish_at (Some c) h = no_finish c h

passes_inner : (code : List Cell) (s : State) → cell_is is_end (fetch code s.pc) ≡ false → Passes code s
passes_inner code s h = record {
  no_start = no_start_at (fetch code s.pc) h;
  finishes = λ t. let f = no_finish_at (fetch code s.pc) h in cc;
}

-- for any number of steps, if it is so from the last state on
passes_on : {code : List Cell} {k : ℕ} {s s' : State} → Clean code k s s'
    → ((j : ℕ) → All (Passes code) (visited code j s')) → (m : ℕ) → All (Passes code) (visited code m s)
passes_on none h m = h m
passes_on {code = code} (more g v c) h zero = All-nil (Passes code)
passes_on {code = code} (more {k = k} {s = s} g v c) h (suc m) =
    subst (λ o. All (Passes code) (before_step o s (visited code m (next code s)))) (sym g)
    (All-cons (Passes code) s (visited code m (next code s)) (passes_inner code s v) (passes_on c h m))

-- and for no more steps than lead there, whatever comes after
passes_within : {code : List Cell} {k : ℕ} {s s' : State} → Clean code k s s' → (m : ℕ) → m ≤ k
    → All (Passes code) (visited code m s)
passes_within {code = code} none zero h = All-nil (Passes code)
passes_within none (suc m) h = absurd (omega arith)
passes_within {code = code} (more g v c) zero h = All-nil (Passes code)
passes_within {code = code} (more {k = k} {s = s} g v c) (suc m) h =
    subst (λ o. All (Passes code) (before_step o s (visited code m (next code s)))) (sym g)
    (All-cons (Passes code) s (visited code m (next code s)) (passes_inner code s v) (passes_within c m (omega arith)))

-- a state at which the run stops
passes_stop : (code : List Cell) (s : State) (why : Stop) → stop code s ≡ Some why → Passes code s → (j : ℕ)
    → All (Passes code) (visited code j s)
passes_stop code s why e p zero = All-nil (Passes code)
passes_stop code s why e p (suc j) = subst (λ o. All (Passes code) (before_step o s (visited code j (next code s))))
    (sym e) (by why)
  where
    by : (why : Stop) → All (Passes code) (before_step (Some why) s (visited code j (next code s)))
    by (OffCode z) = All-nil (Passes code)
    by Bound = All-nil (Passes code)
    by Finished = All-cons (Passes code) s [] p (All-nil (Passes code))
    by Returned = All-cons (Passes code) s [] p (All-nil (Passes code))
    by (Trap w) = All-cons (Passes code) s [] p (All-nil (Passes code))
    by (BadAddress a) = All-cons (Passes code) s [] p (All-nil (Passes code))

-- a trap, or a bad address, is at no end
chosen_none : (b : Bool) (x why : Stop) → (x ≡ why → ⊥) → (if b then Some x else None) ≡ Some why → ⊥
chosen_none true x why n e = n (let k : x ≡ why = cc in k)
chosen_none false x why n e = absurd (cc)

trap_op : (op : Op) (why : Stop) (c : Cell) (s : State) → (Finished ≡ why → ⊥) → (Returned ≡ why → ⊥)
    → stop_in op c s ≡ Some why → is_end_op op ≡ false
trap_op Finish why c s nf nr e = absurd (chosen_none (not s.back && is_zero_word s.br) Finished why nf e)
trap_op Start why c s nf nr e = absurd (chosen_none (s.back && is_zero_word s.br) Returned why nr e)
trap_op _ why c s nf nr e = refl

trap_at : (o : Option Cell) (why : Stop) (s : State) → (Finished ≡ why → ⊥) → (Returned ≡ why → ⊥)
    → stop_at o s ≡ Some why → cell_is is_end o ≡ false
trap_at None why s nf nr e = refl
trap_at (Some c) why s nf nr e = trap_op c.op why c s nf nr e

module _ (main : List Symbol) (bodies : List (List Symbol)) (small : link_size main bodies < 2 ^ 30) where
  abbrev im : Image
  im = link_image main bodies

  abbrev begin : Memory → State
  begin m = started im.code m.regs m.cells

  first : (m : Memory) → next im.code (begin m) ≡ at code_line false 1 m
  first m = refl

  starts : (m : Memory) → stop im.code (begin m) ≡ None
  starts m = refl

  all_steps : (m : Memory) (k : ℕ) (s : State) → Clean im.code k (at code_line false 1 m) s
      → steps im.code (k + 1) (begin m) ≡ Some s
  all_steps m k s c = let z : k + 1 ≡ suc k = omega arith in ap (λ j. steps im.code j (begin m)) z ∙ clean_steps c

  stops_after : (m : Memory) (k : ℕ) (why : Stop) (s : State) → counted why ≡ 1
      → Clean im.code k (at code_line false 1 m) s → stop im.code s ≡ Some why → StopsAfter im.code m (k + 2) why s
  stops_after m k why s one c h j =
      let z : k + 2 + j ≡ (k + 1) + suc j = omega arith in
      let n : (k + 1) + counted why ≡ k + 2 = omega (arith, one) in
      ap (λ i. run im.code i (begin m)) z
      ∙ run-steps im.code (k + 1) (suc j) (begin m) s (all_steps m k s c)
      ∙ ap (later (k + 1)) (run-stop im.code (suc j) s why (omega arith) h)
      ∙ ap (λ i. record { why = why; spent = i; last = s }) n

  at_last : (m' : Memory) → stop im.code (state (pos (1 + length main)) 0 false m') ≡ Some Finished
  at_last m' = ap (λ o. stop_at o (state (pos (1 + length main)) 0 false m')) (finish_there main bodies small)

  passes_last : (m' : Memory) → Passes im.code (state (pos (1 + length main)) 0 false m')
  passes_last m' = record {
    no_start = ap (cell_is is_start) (finish_there main bodies small);
    finishes = λ t. at_last m';
  }

  once : (m : Memory) (j : ℕ) → All (Passes im.code) (visited im.code j (at code_line false 1 m))
      → MeetsEndsOnce im.code (suc j) (begin m)
  once m j p = record {
    start_is_first = λ i d h. (p i d h).no_start;
    finish_is_last = All-cons (λ s. IsTrue (is_at_finish im.code s) → stop im.code s ≡ Some Finished) (begin m)
        (visited im.code j (at code_line false 1 m)) (λ t. let f : is_at_finish im.code (begin m) ≡ false = refl in cc)
        (λ i d h. (p i d h).finishes);
  }

  once_none : (m : Memory) → MeetsEndsOnce im.code 0 (begin m)
  once_none m = record {
    start_is_first = λ k d h. absurd (omega arith);
    finish_is_last = All-nil (λ s. IsTrue (is_at_finish im.code s) → stop im.code s ≡ Some Finished);
  }

  once_stopped : (m : Memory) (j k : ℕ) (why : Stop) (s : State) → (Finished ≡ why → ⊥) → (Returned ≡ why → ⊥)
      → Clean im.code k (at code_line false 1 m) s → stop im.code s ≡ Some why → MeetsEndsOnce im.code (suc j) (begin m)
  once_stopped m j k why s nf nr c h = once m j (passes_on c
      (passes_stop im.code s why h (passes_inner im.code s (trap_at (fetch im.code s.pc) why s nf nr h))) j)

  done : (m m' : Memory) (k : ℕ) → Path im code_line 1 (1 + length main) k 0 (at code_line false 1 m) 0
      (at code_line false (1 + length main) m') → Clean im.code k (at code_line false 1 m)
      (state (pos (1 + length main)) 0 false m')
  done m m' k p = subst (λ z. Clean im.code k (at code_line false 1 m) (state z 0 false m')) (on_line (1 + length main))
      (clean_of p)

  ends_once : (m : Memory) (o : Outcome) → Ends im code_line false 1 (1 + length main) 1 m (1 + length main) o → (n : ℕ)
      → IsToldBy o n → MeetsEndsOnce im.code n (begin m)
  ends_once m o e zero h = once_none m
  ends_once m (Done m' k) (finishes w) (suc j) h =
      once m j (passes_on (done m m' k w.path) (passes_stop im.code _ Finished (at_last m') (passes_last m')) j)
  ends_once m (Trapped w k) (traps e) (suc j) h = once_stopped m j k (Trap w) e.last (λ e. cc) (λ e. cc)
      (clean_of e.path) e.stops
  ends_once m (Bad a k) (bad e) (suc j) h = once_stopped m j k (BadAddress a) e.last (λ e. cc) (λ e. cc)
      (clean_of e.path) e.stops
  ends_once m (Still k) (still e) (suc j) h = once m j (passes_within (clean_of e.path) j (omega arith))

  goes : (m : Memory) (o : Outcome) → Ends im code_line false 1 (1 + length main) 1 m (1 + length main) o
      → GoesSo im.code (1 + length main) m o
  goes m (Done m' k) (finishes w) = stops_after m k Finished _ refl (done m m' k w.path) (at_last m')
  goes m (Trapped w k) (traps h) = (h.last, stops_after m k (Trap w) h.last refl (clean_of h.path) h.stops)
  goes m (Bad a k) (bad h) = (h.last, stops_after m k (BadAddress a) h.last refl (clean_of h.path) h.stops)
  goes m (Still k) (still g) = (g.last, all_steps m k g.last (clean_of g.path))

  pub whole : (m : Memory) (o : Outcome) → Ends im code_line false 1 (1 + length main) 1 m (1 + length main) o
      → Whole im.code (1 + length main) m o
  whole m o e = record { goes = goes m o e; ends_once = ends_once m o e }

-- the routines of these shapes are there
shapes_placed : (im : Image) (n t : ℕ) (ss : List Shape) → AllPlaced im n t (shapes_cells ss) → (r : ℕ) → r < length ss
    → Routine im (n + r) (top_at t ss r) (cells_of_shape (shape_at ss r))
shapes_placed im n t [] h r l = absurd (omega arith)
shapes_placed im n t (s ∷ ss) h zero l = let e : n ≡ n + 0 = omega arith in
    subst (λ k. Routine im k t (cells_of_shape s)) e h.0
shapes_placed im n t (s ∷ ss) h (suc r) l =
    let e : n + 1 + r ≡ n + suc r = omega arith in
    let top = top_at (t + 1 + 1 + 1 + length (cells_of_shape s) + 1) ss r in
    subst (λ k. Routine im k top (cells_of_shape (shape_at ss r))) e
    (shapes_placed im (n + 1) (t + 1 + 1 + 1 + length (cells_of_shape s) + 1) ss h.1 r (omega arith))

shapes_made : (ss : List Shape) → AllMade ss → (r : ℕ) → r < length ss → IsShapeMade (shape_at ss r)
shapes_made [] h r l = absurd (omega arith)
shapes_made (s ∷ ss) h zero l = h.0
shapes_made (s ∷ ss) h (suc r) l = shapes_made ss h.1 r (omega arith)

shapes_stand : (im : Image) (t : ℕ) (ss : List Shape) → AllMade ss → AllPlaced im 0 t (shapes_cells ss) → Tidy im
    → RoutinesStand im (routines_of t ss)
shapes_stand im t ss g h tidy = record {
  made = λ r l. shapes_made ss g r l;
  placed = λ r l. let e : 0 + r ≡ r = omega arith in subst
      (λ k. Routine im k (top_at t ss r) (cells_of_shape (shape_at ss r))) e (shapes_placed im 0 t ss h r l);
  tidy = tidy;
}

pub linked_law : (main : List Symbol) (bodies : List (List Symbol)) → link_size main bodies < 2 ^ 30
    → Linked main bodies (link_image main bodies)
linked_law main bodies small = record {
  main_there = main_there main bodies small;
  routines_there = routines_there main bodies small;
  tidy = tidy main bodies small;
  in_words = in_words (link_image main bodies);
  runs = whole main bodies small;
  closed = λ shapes e all s g a d m n st l h. closed (link_image main bodies) (routines_of (first_top main) shapes) s a
      d m n (shapes_stand (link_image main bodies) (first_top main) shapes all
      (subst (λ z. AllPlaced (link_image main bodies) 0 (first_top main) z) (sym e)
      (routines_there main bodies small)) (tidy main bodies small)) g st l h;
}

-- if main's run is known in some form, so is the image's
pub whole_will : (main : List Symbol) (bodies : List (List Symbol)) (im : Image) (m : Memory) (Q : Outcome → Type 0)
    → Linked main bodies im → 1 + length main < 2 ^ 30 → Will im main false m Q
    → (o : Outcome) × Whole im.code (1 + length main) m o × Q o
whole_will main bodies image m Q l h w = let a = w.will code_line 1 h l.main_there in (a.0, l.runs m a.0 a.1, a.2)
