-- The ranges of a cell's fields, whatever its row, and of the inverse's.
use Rattle.std.proofs.Common.{◌≡◌, refl, ℕ, ◌^◌, ◌<◌, ◌≤◌, Bool, true, false, arith}
use Rattle.pisa_isa.specs.declared.cell.Op.{Op}
use Rattle.pisa_isa.specs.declared.cell.Op.TheVariants.{Add, Addi, Bra, Rbra, Beq, Bne, Bgez, Bgtz, Blez, Bltz}
use Rattle.pisa_isa.specs.declared.cell.Cell.{Cell}
use Rattle.pisa_isa.specs.Table.{IsInRange, inverse_op, inverse_word, inverse_of, has_a, has_b, b_is_source}
use Rattle.pisa_isa.specs.Table.{c_is_source, register_end, imm_end}

register_end-le : (has : Bool) → register_end has ≤ 32
register_end-le true = omega arith
register_end-le false = omega arith

imm_end-le : (op : Op) → imm_end op ≤ 2 ^ 32
imm_end-le Add = omega arith
imm_end-le _ = omega arith

pub a_below : (c : Cell) → IsInRange c → c.a < 32
a_below c h = let e = register_end-le (has_a c.op) in let i = h.a_in in omega arith

pub b_below : (c : Cell) → IsInRange c → c.b < 32
b_below c h = let e = register_end-le (has_b c.op) in let i = h.b_in in omega arith

pub c_below : (c : Cell) → IsInRange c → c.c < 32
c_below c h = let e = register_end-le (c_is_source c.op) in let i = h.c_in in omega arith

pub imm_word : (c : Cell) → IsInRange c → c.imm < 2 ^ 32
imm_word c h = let e = imm_end-le c.op in let i = h.imm_in in omega arith

-- the inverse has the same fields

pub b_is_source-inverse : (op : Op) → b_is_source (inverse_op op) ≡ b_is_source op
b_is_source-inverse Add = refl
b_is_source-inverse _ = refl

pub c_is_source-inverse : (op : Op) → c_is_source (inverse_op op) ≡ c_is_source op
c_is_source-inverse Add = refl
c_is_source-inverse _ = refl

has_a-inverse : (op : Op) → has_a (inverse_op op) ≡ has_a op
has_a-inverse Add = refl
has_a-inverse _ = refl

has_b-inverse : (op : Op) → has_b (inverse_op op) ≡ has_b op
has_b-inverse Add = refl
has_b-inverse _ = refl

inverse_word-in : (op : Op) (i : ℕ) → i < imm_end op → inverse_word op i < imm_end (inverse_op op)
inverse_word-in Addi i h = omega arith
inverse_word-in Bra i h = omega arith
inverse_word-in Rbra i h = omega arith
inverse_word-in Beq i h = omega arith
inverse_word-in Bne i h = omega arith
inverse_word-in Bgez i h = omega arith
inverse_word-in Bgtz i h = omega arith
inverse_word-in Blez i h = omega arith
inverse_word-in Bltz i h = omega arith
inverse_word-in _ i h = h

pub IsInRange-inverse : (c : Cell) → IsInRange c → IsInRange (inverse_of c)
IsInRange-inverse c h = record {
  a_in = rw (has_a-inverse c.op) h.a_in;
  b_in = rw (has_b-inverse c.op) h.b_in;
  c_in = rw (c_is_source-inverse c.op) h.c_in;
  imm_in = inverse_word-in c.op c.imm h.imm_in;
}
