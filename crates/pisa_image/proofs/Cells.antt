-- A cell that is read has these eight bytes and fits, and these eight bytes are read as it.
use Rattle.std.proofs.Common.{◌≡◌, ℕ, suc, ◌+◌, ◌<◌, Bool, true, false, cond, ltb, List, [], ◌∷◌, ◌++◌, Option, Some}
use Rattle.std.proofs.Common.{None, Result, Ok, Err, refl, sym, ap, subst, ◌∙◌}
use Rattle.pisa_isa.specs.declared.cell.Op.{Op}
use Rattle.pisa_isa.specs.declared.cell.Cell.{Cell}
use Rattle.pisa_isa.specs.Table.{has_a, has_b, c_is_source, register_end, imm_end, is_one_to_one, IsCell, IsInRange}
use Rattle.pisa_isa.specs.rpp_words.Words.{IsWord}
use Rattle.pisa_image.specs.declared.error.ImageError.{ImageError}
use Rattle.pisa_image.specs.declared.error.NumberError.{NumberError}
use Rattle.pisa_image.specs.declared.error.ImageError.TheVariants.{NotOneToOne, ImageField}
use Rattle.pisa_image.specs.Numbers.{◌>>=◌, refused_as, word_bytes, read_word_at}
use Rattle.pisa_image.specs.Rows.{row_number, row_with}
use Rattle.pisa_image.specs.ImageBytes.{cell_bytes}
use Rattle.pisa_image.specs.Reading.{number_refusal, byte_below, tested_word, row_or, row_at, fields_at, cell_at}
use Rattle.pisa_isa.proofs.Ranges.{imm_word}
use Rattle.pisa_image.proofs.RowNumbers.{row_again, row_found}
use Rattle.pisa_image.proofs.Many.{IsBytes, Takes, takes_then, bind_ok, ok_is, TakesItsText, ReadsAgain}
use Rattle.pisa_image.proofs.Words.{read_as, word_takes, word_again}
use Rattle.std.proofs.lemmas.Bool.{ltb-true, lt-ltb}

-- a test that passed
pub passed : {E A : Type 0} (b : Bool) (d : E) (x y : A) → cond b (Ok x) (Err d) ≡ Ok y → (b ≡ true) × (x ≡ y)
passed true d x y e = (refl, cc)
passed false d x y e = absurd cc

behind : (b : ℕ) (bytes : List ℕ) → IsBytes (b ∷ bytes) → IsBytes bytes
behind b bytes h i = h (suc i)

byte_takes : (at end : ℕ) (bytes : List ℕ) (x : ℕ × List ℕ) → IsBytes bytes → byte_below at end bytes ≡ Ok x
    → Takes bytes (x.0 ∷ []) x.1 × (x.0 < end)
byte_takes at end [] x fits e = absurd cc
byte_takes at end (b ∷ rest) x fits e =
    let g = passed (ltb b end) (ImageField at) (b, rest) x e in
    subst (λ (y : ℕ × List ℕ). Takes (b ∷ rest) (y.0 ∷ []) y.1 × (y.0 < end)) g.1
    (record { parts = refl; rest_fits = behind b rest fits }, ltb-true b end g.0)

byte_again : (at end b : ℕ) (rest : List ℕ) → b < end → byte_below at end (b ∷ rest) ≡ Ok (b, rest)
byte_again at end b rest lt = rw (lt-ltb b end lt) refl

pub tested_takes : (passes : ℕ → Bool) (refusal : ImageError) (at : ℕ) (bytes : List ℕ) (x : ℕ × List ℕ) → IsBytes bytes
    → tested_word passes refusal at bytes ≡ Ok x
    → Takes bytes (word_bytes x.0) x.1 × IsWord x.0 × (passes x.0 ≡ true)
tested_takes passes refusal at bytes x fits e =
    let a = bind_ok (refused_as number_refusal (read_word_at at bytes))
    (λ number. cond (passes number.0) (Ok number) (Err refusal)) x e in
    let g = passed (passes a.0.0) refusal a.0 x a.2 in
    let t = word_takes at bytes a.0 fits (read_as number_refusal (read_word_at at bytes) a.0 a.1) in
    subst (λ (y : ℕ × List ℕ). Takes bytes (word_bytes y.0) y.1 × IsWord y.0 × (passes y.0 ≡ true)) g.1 (t.0, t.1, g.0)

pub tested_again : (passes : ℕ → Bool) (refusal : ImageError) (at n : ℕ) (rest : List ℕ) → IsWord n → passes n ≡ true
    → tested_word passes refusal at (word_bytes n ++ rest) ≡ Ok (n, rest)
tested_again passes refusal at n rest w p =
    ap (λ (r : Result (ℕ × List ℕ) NumberError). refused_as number_refusal r >>= λ number. cond (passes number.0)
    (Ok number) (Err refusal)) (word_again at n rest w) ∙ rw p refl

-- the row

row_is : (refusal : ImageError) (o : Option Op) (rest : List ℕ) (x : Op × List ℕ) → row_or refusal o rest ≡ Ok x
    → (o ≡ Some x.0) × (rest ≡ x.1)
row_is refusal None rest x e = absurd cc
row_is refusal (Some op) rest x e = let same : (op, rest) ≡ x = ok_is (op, rest) x e in
    (ap (λ (y : Op × List ℕ). Some y.0) same, ap (λ (y : Op × List ℕ). y.1) same)

row_takes : (at : ℕ) (bytes : List ℕ) (x : Op × List ℕ) → IsBytes bytes → row_at at bytes ≡ Ok x
    → Takes bytes (row_number x.0 ∷ []) x.1
row_takes at [] x fits e = absurd cc
row_takes at (b ∷ rest) x fits e =
    let g = row_is (ImageField at) (row_with b) rest x e in
    let number : b ≡ row_number x.0 = row_found b x.0 g.0 in
    record { parts = rw (number, g.1) refl; rest_fits = subst IsBytes g.1 (behind b rest fits) }

row_read : (at : ℕ) (op : Op) (rest : List ℕ) → row_at at (row_number op ∷ rest) ≡ Ok (op, rest)
row_read at op rest = ap (λ o. row_or (ImageField at) o rest) (row_again op)

-- the other fields

abbrev field_bytes : Cell → List ℕ
field_bytes cell = cell.a ∷ cell.b ∷ cell.c ∷ word_bytes cell.imm

record HasFields (at : ℕ) (op : Op) (bytes : List ℕ) (x : Cell × List ℕ) : Type 0 where
  same_row : x.0.op ≡ op
  takes : Takes bytes (field_bytes x.0) x.1
  ranges : IsInRange x.0

fields_take : (at : ℕ) (op : Op) (bytes : List ℕ) (x : Cell × List ℕ) → IsBytes bytes → fields_at at op bytes ≡ Ok x
    → HasFields at op bytes x
unfolding fields_at
fields_take at op bytes x fits e =
    let ra = byte_below (at + 1) (register_end (has_a op)) bytes in
    let a = bind_ok ra (λ a. byte_below (at + 2) (register_end (has_b op)) a.1 >>= λ b. byte_below (at + 3)
    (register_end (c_is_source op)) b.1 >>= λ c. tested_word (λ n. ltb n (imm_end op)) (ImageField (at + 4))
    (at + 4) c.1 >>= λ imm. Ok (record { op = op; a = a.0; b = b.0; c = c.0; imm = imm.0 }, imm.1)) x e in
    let b = bind_ok (byte_below (at + 2) (register_end (has_b op)) a.0.1)
    (λ b. byte_below (at + 3) (register_end (c_is_source op)) b.1 >>= λ c. tested_word (λ n. ltb n (imm_end op))
    (ImageField (at + 4)) (at + 4) c.1 >>= λ imm. Ok (
      record
          { op = op; a = a.0.0; b = b.0; c = c.0; imm = imm.0 },
      imm.1,
    )) x a.2 in
    let c = bind_ok (byte_below (at + 3) (register_end (c_is_source op)) b.0.1)
    (λ c. tested_word (λ n. ltb n (imm_end op)) (ImageField (at + 4)) (at + 4) c.1 >>= λ imm. Ok
    (record { op = op; a = a.0.0; b = b.0.0; c = c.0; imm = imm.0 }, imm.1)) x b.2 in
    let i = bind_ok (tested_word (λ n. ltb n (imm_end op)) (ImageField (at + 4)) (at + 4) c.0.1)
    (λ imm. Ok (record { op = op; a = a.0.0; b = b.0.0; c = c.0.0; imm = imm.0 }, imm.1)) x c.2 in
    let ta = byte_takes (at + 1) (register_end (has_a op)) bytes a.0 fits a.1 in
    let tb = byte_takes (at + 2) (register_end (has_b op)) a.0.1 b.0 ta.0.rest_fits b.1 in
    let tc = byte_takes (at + 3) (register_end (c_is_source op)) b.0.1 c.0 tb.0.rest_fits c.1 in
    let ti = tested_takes (λ n. ltb n (imm_end op)) (ImageField (at + 4)) (at + 4) c.0.1 i.0 tc.0.rest_fits i.1 in
    let cell : Cell = record { op = op; a = a.0.0; b = b.0.0; c = c.0.0; imm = i.0.0 } in
    let made : Cell × List ℕ = (cell, i.0.1) in
    let ci = takes_then b.0.1 (c.0.0 ∷ []) c.0.1 (word_bytes i.0.0) i.0.1 tc.0 ti.0 in
    let bi = takes_then a.0.1 (b.0.0 ∷ []) b.0.1 (c.0.0 ∷ word_bytes i.0.0) i.0.1 tb.0 ci in
    let all = takes_then bytes (a.0.0 ∷ []) a.0.1 (b.0.0 ∷ c.0.0 ∷ word_bytes i.0.0) i.0.1 ta.0 bi in
    subst (HasFields at op bytes) (ok_is made x i.2)
    (record {
      same_row = refl;
      takes = all;
      ranges = record
          { a_in = ta.1; b_in = tb.1; c_in = tc.1; imm_in = ltb-true i.0.0 (imm_end op) ti.2 };
    })

fields_again : (at : ℕ) (cell : Cell) (rest : List ℕ) → IsInRange cell
    → fields_at at cell.op (field_bytes cell ++ rest) ≡ Ok (cell, rest)
unfolding fields_at
fields_again at cell rest r =
    let word : IsWord cell.imm = imm_word cell r in
    rw (
      byte_again (at + 1) (register_end (has_a cell.op)) cell.a (cell.b ∷ cell.c ∷ (word_bytes cell.imm ++ rest))
          r.a_in,
      byte_again (at + 2) (register_end (has_b cell.op)) cell.b (cell.c ∷ (word_bytes cell.imm ++ rest)) r.b_in,
      byte_again (at + 3) (register_end (c_is_source cell.op)) cell.c (word_bytes cell.imm ++ rest) r.c_in,
      tested_again (λ n. ltb n (imm_end cell.op)) (ImageField (at + 4)) (at + 4) cell.imm rest word
          (lt-ltb cell.imm (imm_end cell.op) r.imm_in),
    ) refl

-- a whole cell

pub cell_takes : TakesItsText cell_at cell_bytes IsCell
unfolding cell_at
cell_takes at bytes x fits e =
    let a = bind_ok (row_at at bytes) (λ row. fields_at at row.0 row.1 >>= λ cell. cond (is_one_to_one cell.0) (Ok cell)
    (Err (NotOneToOne at))) x e in
    let b = bind_ok (fields_at at a.0.0 a.0.1) (λ cell. cond (is_one_to_one cell.0) (Ok cell) (Err (NotOneToOne at))) x
    a.2 in
    let g = passed (is_one_to_one b.0.0) (NotOneToOne at) b.0 x b.2 in
    let row = row_takes at bytes a.0 fits a.1 in
    let fields = fields_take at a.0.0 a.0.1 b.0 row.rest_fits b.1 in
    let both = takes_then bytes (row_number a.0.0 ∷ []) a.0.1 (field_bytes b.0.0) b.0.1 row fields.takes in
    let whole : Takes bytes (cell_bytes b.0.0) b.0.1 = subst
    (λ (op : Op). Takes bytes (row_number op ∷ field_bytes b.0.0) b.0.1) (sym fields.same_row) both in
    subst (λ (y : Cell × List ℕ). Takes bytes (cell_bytes y.0) y.1 × IsCell y.0) g.1
    (whole, record { in_range = fields.ranges; one_to_one = g.0 })

pub cell_again : ReadsAgain cell_at cell_bytes IsCell
unfolding cell_at
cell_again at cell rest i =
    rw (row_read at cell.op (field_bytes cell ++ rest), fields_again at cell rest i.in_range, i.one_to_one) refl
