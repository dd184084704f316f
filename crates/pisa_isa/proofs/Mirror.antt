-- A step of the flipped code is the step of the code in the mirror.
use Rattle.std.proofs.Common.{◌≡◌, ◌∙◌, sym, ap, refl, ℕ, ◌-◌, ◌^◌, ◌<◌, Bool, true, false, not, arith, List, length}
use Rattle.std.proofs.Common.{get_or, ℤ, pos, negsuc, ◌+ℤ◌, ◌-ℤ◌, Some, map}
use Rattle.std.proofs.lemmas.List.{get_or-reverse, get_or-map, length-reverse, length-map}
use Rattle.std.proofs.lemmas.Option.{slice_get_within, get_or_from_slice_get, slice_get_read}
use Rattle.std.proofs.lemmas.Int.{ints}
use Rattle.rpp_words.proofs.Laws.{negated-negated}
use Rattle.pisa_isa.specs.declared.cell.Op.{Op}
use Rattle.pisa_isa.specs.declared.cell.Op.TheVariants.{Add, Addi, Bra, Rbra, Beq, Bne, Bgez, Bgtz, Blez, Bltz}
use Rattle.pisa_isa.specs.declared.cell.Cell.{Cell}
use Rattle.pisa_isa.specs.Table.{IsCell, inverse_op, inverse_word, inverse_of}
use Rattle.pisa_isa.proofs.Effect.{cell}
use Rattle.pisa_isa.proofs.Ranges.{imm_word}
use Rattle.pisa_isa.specs.Flipped.{flipped}
use Rattle.pisa_isa.specs.Machine.{State, moved, place_moved, stride, effect, effect_at, row, row_of, faced, fetch}
use Rattle.pisa_isa.specs.Machine.{next}

-- the place counted from the other end, and the other direction
abbrev pub mirrored : ℕ → State → State
mirrored n m = record m { pc = (pos n -ℤ pos 1) -ℤ m.pc; back = not m.back }

pub inverse_op-twice : (op : Op) → inverse_op (inverse_op op) ≡ op
inverse_op-twice Add = refl
inverse_op-twice _ = refl

pub inverse_word-twice : (op : Op) (i : ℕ) → i < 2 ^ 32 → inverse_word (inverse_op op) (inverse_word op i) ≡ i
inverse_word-twice Addi i h = negated-negated i h
inverse_word-twice Bra i h = negated-negated i h
inverse_word-twice Rbra i h = negated-negated i h
inverse_word-twice Beq i h = negated-negated i h
inverse_word-twice Bne i h = negated-negated i h
inverse_word-twice Bgez i h = negated-negated i h
inverse_word-twice Bgtz i h = negated-negated i h
inverse_word-twice Blez i h = negated-negated i h
inverse_word-twice Bltz i h = negated-negated i h
inverse_word-twice _ i h = refl

same_cell : {op op' : Op} {i i' : ℕ} (a b c : ℕ) → op ≡ op' → i ≡ i' → cell op a b c i ≡ cell op' a b c i'
same_cell a b c e f = cc

pub inverse_of-twice : (c : Cell) → IsCell c → inverse_of (inverse_of c) ≡ c
inverse_of-twice c k = same_cell c.a c.b c.c (inverse_op-twice c.op)
    (inverse_word-twice c.op c.imm (imm_word c k.in_range))

faced-mirror : (b : Bool) (c : Cell) → IsCell c → faced (not b) (inverse_of c) ≡ faced b c
faced-mirror true c k = refl
faced-mirror false c k = inverse_of-twice c k

row-mirror : (op : Op) (a b c i n : ℕ) (m : State) → row op a b c i (mirrored n m) ≡ mirrored n (row op a b c i m)
row-mirror Add a b c i n m = refl
row-mirror _ a b c i n m = refl

effect-mirror : (c : Cell) (n : ℕ) (m : State) → IsCell c
    → effect (inverse_of c) (mirrored n m) ≡ mirrored n (effect c m)
effect-mirror c n m k =
    let d = faced m.back c in
    ap (λ e. row_of e (mirrored n m)) (faced-mirror m.back c k) ∙ row-mirror d.op d.a d.b d.c d.imm n m

plus_mirror : (n p k : ℤ) → (n -ℤ p) +ℤ k ≡ n -ℤ (p -ℤ k)
plus_mirror n p k = omega (arith, ints)

minus_mirror : (n p k : ℤ) → (n -ℤ p) -ℤ k ≡ n -ℤ (p +ℤ k)
minus_mirror n p k = omega (arith, ints)

place-mirror : (b : Bool) (n : ℕ) (p : ℤ) (br : ℕ) → place_moved (not b) ((pos n -ℤ pos 1) -ℤ p) br
    ≡ (pos n -ℤ pos 1) -ℤ place_moved b p br
place-mirror true n p br = plus_mirror (pos n -ℤ pos 1) p (stride br)
place-mirror false n p br = minus_mirror (pos n -ℤ pos 1) p (stride br)

pub moved-mirror : (n : ℕ) (m : State) → moved (mirrored n m) ≡ mirrored n (moved m)
moved-mirror n m = ap (λ p. record m { pc = p; back = not m.back }) (place-mirror m.back n m.pc m.br)

pub fetch-flipped : (code : List Cell) (p : ℤ) (c : Cell) → fetch code p ≡ Some c
    → fetch (flipped code) ((pos (length code) -ℤ pos 1) -ℤ p) ≡ Some (inverse_of c)
fetch-flipped code (negsuc k) c e = absurd (cc)
fetch-flipped code (pos k) c e =
    let h : k < length code = slice_get_within code k c e in
    let place : (pos (length code) -ℤ pos 1) -ℤ pos k ≡ pos (length code - 1 - k) = omega (arith, ints) in
    let xs : List Cell = map inverse_of code in
    let n : length xs ≡ length code = length-map code inverse_of in
    let j : length code - 1 - k < length xs = omega arith in
    let back_to : length xs - 1 - (length code - 1 - k) ≡ k = omega arith in
    let read : get_or (flipped code) (length code - 1 - k) (inverse_of c) ≡ inverse_of c =
    get_or-reverse xs (length code - 1 - k) (inverse_of c) j
    ∙ ap (λ i. get_or xs i (inverse_of c)) back_to
    ∙ get_or-map inverse_of code k c (inverse_of c) h
    ∙ ap inverse_of (get_or_from_slice_get code k c c e) in
    let all : length code ≡ length (flipped code) = sym (length-reverse xs ∙ n) in
    rw place (slice_get_read (flipped code) (length code) (length code - 1 - k) (inverse_of c) all (omega arith)
    (sym read))

pub next-mirror : (code : List Cell) (m : State) (c : Cell) → IsCell c → fetch code m.pc ≡ Some c
    → next (flipped code) (mirrored (length code) m) ≡ mirrored (length code) (next code m)
next-mirror code m c k e =
    ap (λ o. moved (effect_at o (mirrored (length code) m))) (fetch-flipped code m.pc c e)
    ∙ ap moved (effect-mirror c (length code) m k)
    ∙ moved-mirror (length code) (effect c m)
    ∙ ap (λ o. mirrored (length code) (moved (effect_at o m))) (sym e)
