-- An instruction run backward undoes what it did forward. So instructions, and fragments between an
-- instruction and its inverse, need to be known only forward.
use Rattle.std.proofs.Common.{◌≡◌, ◌≢◌, ◌∙◌, ℕ, suc, ◌+◌, ◌^◌, ◌<◌, Bool, true, false, List, [], ◌∷◌, ◌++◌, length}
use Rattle.std.proofs.Common.{refl, sym, ap, subst, arith, pos, nat_lt, ap₂, get_or, length-set, ltb-true, ℤ}
use Rattle.std.proofs.lemmas.List.{get_or-set_other}
use Rattle.std.proofs.lemmas.List.Elements.{All-get_or, All-set}
use Rattle.std.specs.Prelude.{not, if◌then◌else◌}
use Rattle.std.specs.List.{All}
use Rattle.code_conventions.specs.rpp_words.Words.{IsWord}
use Rattle.code_conventions.specs.pisa_isa.declared.cell.Op.{Op}
use Rattle.code_conventions.specs.pisa_isa.declared.cell.Op.TheVariants.{Exch, Swapbr, Bra, Rbra, Beq, Bne, Bgez, Bgtz}
use Rattle.code_conventions.specs.pisa_isa.declared.cell.Op.TheVariants.{Blez, Bltz}
use Rattle.code_conventions.specs.pisa_isa.declared.cell.Op.TheVariants.{Start, Finish, DataWord}
use Rattle.code_conventions.specs.pisa_isa.declared.cell.Cell.{Cell}
use Rattle.code_conventions.specs.pisa_isa.Table.{IsCell, inverse_op, b_is_source, new_value}
use Rattle.code_conventions.specs.pisa_isa.Machine.{State, turned_state, effect, row, row_of, faced, has_cell, Memory}
use Rattle.code_conventions.specs.pisa_isa.Machine.{memory_of}
use Rattle.code_conventions.proofs.pisa_isa_laws.Back.{Apart-cell}
use Rattle.code_conventions.proofs.pisa_isa_laws.Effect.{Fits, effect-twice}
use Rattle.code_conventions.proofs.pisa_isa_laws.Keeps.{new_value-lt}
use Rattle.code_conventions.proofs.pisa_isa_laws.Ranges.{a_below, b_below, c_below, imm_word}
use Rattle.paired_code.specs.declared.part.Symbol.{Symbol}
use Rattle.paired_code.specs.declared.part.Symbol.TheVariants.{Own}
use Rattle.paired_code.specs.Machine.{Image, state, memory_reg as reg_of, is_single, is_single_op, effect_along}
use Rattle.paired_code.specs.Layout.{mirror_cells}
use Rattle.paired_code.specs.Pieces.{Outcome, Done, Trapped, Bad, Still, Runs, outcome_after}
use Rattle.paired_code.proofs.Steps.{has_its_cell}
use Rattle.paired_code.proofs.Small.{runs_empty, runs_single}
use Rattle.paired_code.proofs.Contract.{seq_law, mirror_law}
use Rattle.paired_code.specs.Rows.{line, within_symbols}

-- 32 registers, and cells, of words
pub record HoldsWords (m : Memory) : Type 0 where
  pub count : length m.regs ≡ 32
  pub regs : All IsWord m.regs
  pub cells : All IsWord m.cells

abbrev at_first : Memory → State
at_first m = state (pos 0) 0 false m

-- the memories of one outcome
of_done : (a b : Memory) (k j : ℕ) → Done a k ≡ Done b j → a ≡ b
of_done a b k j e = ap (λ o. elim o as (λ _. Memory) [ Done m i ↦ m | Trapped w i ↦ a | Bad w i ↦ a | Still i ↦ a ]) e

-- a single instruction does not read the code address, the branch register or the direction
row_free : (op : Op) (a b c i : ℕ) (s : State) → is_single_op op ≡ true
    → memory_of (row op a b c i s) ≡ memory_of (row op a b c i (at_first (memory_of s)))
row_free Exch a b c i s h = refl
row_free Swapbr a b c i s h = cc
row_free Bra a b c i s h = cc
row_free Rbra a b c i s h = cc
row_free Beq a b c i s h = cc
row_free Bne a b c i s h = cc
row_free Bgez a b c i s h = cc
row_free Bgtz a b c i s h = cc
row_free Blez a b c i s h = cc
row_free Bltz a b c i s h = cc
row_free Start a b c i s h = cc
row_free Finish a b c i s h = cc
row_free DataWord a b c i s h = cc
row_free _ a b c i s h = refl

row_back : (op : Op) (a b c i : ℕ) (s : State) → is_single_op op ≡ true → (row op a b c i s).back ≡ s.back
row_back Exch a b c i s h = refl
row_back Swapbr a b c i s h = cc
row_back Bra a b c i s h = cc
row_back Rbra a b c i s h = cc
row_back Beq a b c i s h = cc
row_back Bne a b c i s h = cc
row_back Bgez a b c i s h = cc
row_back Bgtz a b c i s h = cc
row_back Blez a b c i s h = cc
row_back Bltz a b c i s h = cc
row_back Start a b c i s h = cc
row_back Finish a b c i s h = cc
row_back DataWord a b c i s h = cc
row_back _ a b c i s h = refl

single_inverse : (op : Op) → is_single_op op ≡ true → is_single_op (inverse_op op) ≡ true
single_inverse Exch h = refl
single_inverse Swapbr h = cc
single_inverse Bra h = cc
single_inverse Rbra h = cc
single_inverse Beq h = cc
single_inverse Bne h = cc
single_inverse Bgez h = cc
single_inverse Bgtz h = cc
single_inverse Blez h = cc
single_inverse Bltz h = cc
single_inverse Start h = cc
single_inverse Finish h = cc
single_inverse DataWord h = cc
single_inverse _ h = refl

-- what a row leaves in registers and cells
record LeavesWords (s : State) : Type 0 where
  regs : All IsWord s.regs
  cells : All IsWord s.cells

reg_word : (m : Memory) (r : ℕ) → HoldsWords m → r < 32 → IsWord (get_or m.regs r 0)
reg_word m r w h = All-get_or IsWord m.regs r 0 (let n = w.count in omega arith) w.regs

row_words : (op : Op) (a b c i : ℕ) (m : Memory) → is_single_op op ≡ true → a < 32 → b < 32 → c < 32 → i < 2 ^ 32
    → HoldsWords m → has_cell op b (at_first m) ≡ true → LeavesWords (row op a b c i (at_first m))
row_words Exch a b c i m h ka kb kc ki w t =
    let x = get_or m.regs b 0 in
    let inside : x < length m.cells = ltb-true x (length m.cells) t in
    record {
      regs = All-set IsWord m.regs a (get_or m.cells x 0) (All-get_or IsWord m.cells x 0 inside w.cells) w.regs;
      cells = All-set IsWord m.cells x (get_or m.regs a 0) (reg_word m a w ka) w.cells;
    }
row_words Swapbr a b c i m h ka kb kc ki w t = absurd (cc)
row_words Bra a b c i m h ka kb kc ki w t = absurd (cc)
row_words Rbra a b c i m h ka kb kc ki w t = absurd (cc)
row_words Beq a b c i m h ka kb kc ki w t = absurd (cc)
row_words Bne a b c i m h ka kb kc ki w t = absurd (cc)
row_words Bgez a b c i m h ka kb kc ki w t = absurd (cc)
row_words Bgtz a b c i m h ka kb kc ki w t = absurd (cc)
row_words Blez a b c i m h ka kb kc ki w t = absurd (cc)
row_words Bltz a b c i m h ka kb kc ki w t = absurd (cc)
row_words Start a b c i m h ka kb kc ki w t = absurd (cc)
row_words Finish a b c i m h ka kb kc ki w t = absurd (cc)
row_words DataWord a b c i m h ka kb kc ki w t = absurd (cc)
row_words op a b c i m h ka kb kc ki w t =
    let x = new_value op (get_or m.regs a 0) (get_or m.regs b 0) (get_or m.regs c 0) i in
    let word = new_value-lt op (get_or m.regs a 0) (get_or m.regs b 0) (get_or m.regs c 0) i (reg_word m a w ka)
    (reg_word m b w kb) (reg_word m c w kc) ki in
    record { regs = All-set IsWord m.regs a x word w.regs; cells = w.cells }

row_count : (op : Op) (a b c i : ℕ) (m : Memory) → is_single_op op ≡ true
    → length (row op a b c i (at_first m)).regs ≡ length m.regs
row_count Exch a b c i m h = length-set m.regs a (get_or m.cells (get_or m.regs b 0) 0)
row_count Swapbr a b c i m h = absurd (cc)
row_count Bra a b c i m h = absurd (cc)
row_count Rbra a b c i m h = absurd (cc)
row_count Beq a b c i m h = absurd (cc)
row_count Bne a b c i m h = absurd (cc)
row_count Bgez a b c i m h = absurd (cc)
row_count Bgtz a b c i m h = absurd (cc)
row_count Blez a b c i m h = absurd (cc)
row_count Bltz a b c i m h = absurd (cc)
row_count Start a b c i m h = absurd (cc)
row_count Finish a b c i m h = absurd (cc)
row_count DataWord a b c i m h = absurd (cc)
row_count op a b c i m h = length-set m.regs a (new_value op (get_or m.regs a 0) (get_or m.regs b 0) (get_or m.regs c 0)
    i)

pub effect_words : (c : Cell) (m : Memory) → is_single c ≡ true → IsCell c → HoldsWords m → has_its_cell c m ≡ true
    → HoldsWords (effect_along false c m)
effect_words c m one k w h =
    let r = k.in_range in
    let s = row_words c.op c.a c.b c.c c.imm m one (a_below c r) (b_below c r) (c_below c r) (imm_word c r) w h in
    record { count = row_count c.op c.a c.b c.c c.imm m one ∙ w.count; regs = s.regs; cells = s.cells }

found_too : (op : Op) (b : ℕ) (m : Memory) → has_cell op b (at_first m) ≡ true → (p : ℤ) (d : Bool)
    → has_cell op b (state p 0 d m) ≡ true
found_too Exch b m h p d = h
found_too _ b m h p d = refl

pub effect_back : (c : Cell) (m : Memory) → is_single c ≡ true → IsCell c → HoldsWords m → has_its_cell c m ≡ true
    → effect_along true c (effect_along false c m) ≡ m
effect_back c m h k w t =
    let s = at_first m in
    let e = effect c s in
    let d = faced true c in
    let r = k.in_range in
    let fits : Fits c.op c.a c.b c.c c.imm 0 m.regs m.cells = record {
      a_in = let x = a_below c r in let y = w.count in omega arith;
      a_word = reg_word m c.a w (a_below c r);
      b_word = reg_word m c.b w (b_below c r);
      i_word = imm_word c r;
      br_word = omega arith;
      apart = Apart-cell c k;
      found = found_too c.op c.b m t;
    } in
    let same : e.back ≡ false = row_back c.op c.a c.b c.c c.imm s h in
    let undone : effect c (turned_state e) ≡ turned_state s =
    effect-twice c.op c.a c.b c.c c.imm (pos 0) 0 false m.regs m.cells
    fits in
    let free : memory_of (row_of d (turned_state e)) ≡ memory_of (row_of d (at_first (memory_of e))) =
    row_free d.op d.a d.b d.c d.imm (turned_state e) (single_inverse c.op h) in
    sym free ∙ ap (λ b. memory_of (row_of (faced (not b) c) (turned_state e))) (sym same) ∙ ap memory_of undone

-- ---- rows

-- single instructions, which an image may hold
abbrev pub AllPlain : List Cell → Type 0
AllPlain [] = Unit {0}
AllPlain (c ∷ cs) = (is_single c ≡ true) × IsCell c × AllPlain cs

-- what a row does forward, if each EXCH has its cell
pub data Went : List Cell → Memory → Memory → Type 0 where
  stay : {m : Memory} → Went [] m m
  goes : {c : Cell} {cs : List Cell} {m m1 : Memory} → has_its_cell c m ≡ true → Went cs (effect_along false c m) m1
      → Went (c ∷ cs) m m1

pub went_words : {cs : List Cell} {m m1 : Memory} → AllPlain cs → HoldsWords m → Went cs m m1 → HoldsWords m1
went_words p w stay = w
went_words p w (goes {c = c} {m = m} h r) = went_words p.2 (effect_words c m p.0 p.1 w h) r

-- one part and the next, in either direction
pub ahead : (im : Image) (p q : List Symbol) (m m1 : Memory) (k : ℕ) (o : Outcome) → Runs im p false m (Done m1 k)
    → Runs im q false m1 o → Runs im (p ++ q) false m (outcome_after k o)
ahead im p q m m1 k o a b = (seq_law p q).ahead im m (Done m1 k) (λ x. o) a
    (λ x j e. subst (λ z. Runs im q false z o) (of_done m1 x k j e) b)

pub behind : (im : Image) (p q : List Symbol) (m m1 : Memory) (k : ℕ) (o : Outcome) → Runs im q true m (Done m1 k)
    → Runs im p true m1 o → Runs im (p ++ q) true m (outcome_after k o)
behind im p q m m1 k o a b = (seq_law p q).back im m (Done m1 k) (λ x. o) a
    (λ x j e. subst (λ z. Runs im p true z o) (of_done m1 x k j e) b)

-- as many steps
pub steps_are : (im : Image) (p : List Symbol) (d : Bool) (m m1 : Memory) (k j : ℕ) → k ≡ j → Runs im p d m (Done m1 k)
    → Runs im p d m (Done m1 j)
steps_are im p d m m1 k j e r = subst (λ z. Runs im p d m (Done m1 z)) e r

pub went_ahead : (im : Image) {cs : List Cell} {m m1 : Memory} → AllPlain cs → Went cs m m1
    → Runs im (line cs) false m (Done m1 (length cs))
went_ahead im {m = m} p stay = runs_empty im false m
went_ahead im p (goes {c = c} {cs = cs} {m = m} {m1 = m1} h r) =
    let one : Runs im (Own c ∷ []) false m (Done (effect_along false c m) 1) =
    subst (λ b. Runs im (Own c ∷ []) false m (if b then Done (effect_along false c m) 1 else Bad (reg_of m c.b) 0))
    h (runs_single im c false m p.0 (imm_word c p.1.in_range)) in
    steps_are im (line (c ∷ cs)) false m m1 (1 + length cs) (suc (length cs)) (omega arith)
    (ahead im (Own c ∷ []) (line cs) m (effect_along false c m) 1 (Done m1 (length cs)) one (went_ahead im p.2 r))

-- an EXCH has its cell afterwards too
still_has : (op : Op) (a b c i : ℕ) (m : Memory) → (b_is_source op ≡ true → b ≢ a) → has_cell op b (at_first m) ≡ true
    → has_cell op b (at_first (memory_of (row op a b c i (at_first m)))) ≡ true
still_has Exch a b c i m ne h =
    let x = get_or m.cells (get_or m.regs b 0) 0 in
    ap₂ nat_lt (get_or-set_other m.regs a b x 0 (ne refl)) (length-set m.cells (get_or m.regs b 0) (get_or m.regs a 0))
    ∙ h
still_has _ a b c i m ne h = refl

-- backward from where the row went
pub went_behind : (im : Image) {cs : List Cell} {m m1 : Memory} → AllPlain cs → HoldsWords m → Went cs m m1
    → Runs im (line cs) true m1 (Done m (length cs))
went_behind im {m = m} p w stay = runs_empty im true m
went_behind im p w (goes {c = c} {cs = cs} {m = m} {m1 = m1} h r) =
    let m2 = effect_along false c m in
    let there : has_its_cell c m2 ≡ true = still_has c.op c.a c.b c.c c.imm m (λ e. (Apart-cell c p.1).from_b e) h in
    let out : Runs im (Own c ∷ []) true m2 (Done (effect_along true c m2) 1) =
    subst (λ b. Runs im (Own c ∷ []) true m2 (if b then Done (effect_along true c m2) 1 else Bad (reg_of m2 c.b) 0))
    there (runs_single im c true m2 p.0 (imm_word c p.1.in_range)) in
    let one : Runs im (Own c ∷ []) true m2 (Done m 1) = subst (λ z. Runs im (Own c ∷ []) true m2 (Done z 1))
    (effect_back c m p.0 p.1 w h) out in
    steps_are im (line (c ∷ cs)) true m1 m (length cs + 1) (suc (length cs)) (omega arith)
    (behind im (Own c ∷ []) (line cs) m1 m2 (length cs) (Done m 1)
    (went_behind im p.2 (effect_words c m p.0 p.1 w h) r) one)

-- in either direction: from m, where backward the row leads from m1 to m
abbrev pub Along : Bool → List Cell → Memory → Memory → Type 0
Along false cs m m1 = Went cs m m1
Along true cs m m1 = Went cs m1 m

pub went_along : (im : Image) (d : Bool) (cs : List Cell) (m m1 : Memory) → AllPlain cs → HoldsWords m → HoldsWords m1
    → Along d cs m m1 → Runs im (line cs) d m (Done m1 (length cs))
went_along im false cs m m1 p w w1 r = went_ahead im p r
went_along im true cs m m1 p w w1 r = went_behind im p w1 r

-- a fragment that is inverted
pub turned_runs : (im : Image) (p : List Symbol) (d : Bool) (m : Memory) (o : Outcome) → Runs im p (not d) m o
    → Runs im (mirror_cells p) d m o
turned_runs im p d m o r = (mirror_law p).turns im d m o r

-- a row, a fragment in a direction, and the row back
pub within_runs : (im : Image) (d : Bool) (cs : List Cell) (piece : List Symbol) (m m1 m2 m3 : Memory) (k : ℕ)
    → AllPlain cs → HoldsWords m3 → Went cs m m1 → Runs im piece d m1 (Done m2 k) → Went cs m3 m2
    → Runs im (within_symbols cs piece) d m (Done m3 (length cs + (k + length cs)))
within_runs im false cs piece m m1 m2 m3 k p w a r b =
    ahead im (line cs) (piece ++ mirror_cells (line cs)) m m1 (length cs) (Done m3 (k + length cs)) (went_ahead im p a)
    (ahead im piece (mirror_cells (line cs)) m1 m2 k (Done m3 (length cs)) r
    (turned_runs im (line cs) false m2 _ (went_behind im p w b)))
within_runs im true cs piece m m1 m2 m3 k p w a r b =
    steps_are im (within_symbols cs piece) true m m3 (length cs + k + length cs) (length cs + (k + length cs))
    (omega arith)
    (behind im (line cs) (piece ++ mirror_cells (line cs)) m m2 (length cs + k) (Done m3 (length cs))
    (behind im piece (mirror_cells (line cs)) m m1 (length cs) (Done m2 k)
    (turned_runs im (line cs) true m _ (went_ahead im p a)) r)
    (went_behind im p w b))

-- the fragment stops
pub first_traps : (im : Image) (p q : List Symbol) (m : Memory) (w k : ℕ) → Runs im p false m (Trapped w k)
    → Runs im (p ++ q) false m (Trapped w k)
first_traps im p q m w k r = (seq_law p q).ahead im m (Trapped w k) (λ x. Still 0) r (λ x j e. absurd (cc))

pub within_traps : (im : Image) (cs : List Cell) (piece : List Symbol) (m m1 : Memory) (w k : ℕ) → AllPlain cs
    → Went cs m m1 → Runs im piece false m1 (Trapped w k)
    → Runs im (within_symbols cs piece) false m (Trapped w (length cs + k))
within_traps im cs piece m m1 w k p a r =
    ahead im (line cs) (piece ++ mirror_cells (line cs)) m m1 (length cs) (Trapped w k) (went_ahead im p a)
    (first_traps im piece (mirror_cells (line cs)) m1 w k r)
