-- A row has its number, and the number its row.
use Rattle.std.proofs.Common.{◌≡◌, refl, ap, ℕ, zero, suc, ◌+◌, ◌-◌, arith, Bool, true, false, cond, List, [], ◌∷◌}
use Rattle.std.proofs.Common.{Option, Some, None}
use Rattle.std.specs.Prelude.{nat_eq, ◌&&◌, slice_get}
use Rattle.std.proofs.lemmas.Bool.{eqb-true, and_parts}
use Rattle.std.proofs.lemmas.Bool.Decides.{nat_tests}
use Rattle.pisa_isa.specs.declared.cell.Op.{Op}
use Rattle.pisa_isa.specs.declared.cell.Op.TheVariants.{Add, Sub, Xor, Neg, Addi, Xori, Rl, Rr, Rlv, Rrv, Andx, Orx}
use Rattle.pisa_isa.specs.declared.cell.Op.TheVariants.{Norx, Sltx, Andix, Orix, Sllx, Srlx, Srax, Sllvx, Srlvx, Sravx}
use Rattle.pisa_isa.specs.declared.cell.Op.TheVariants.{Exch, Swapbr, Bra, Rbra, Beq, Bne, Bgez, Bgtz, Blez, Bltz}
use Rattle.pisa_isa.specs.declared.cell.Op.TheVariants.{Start, Finish, DataWord}
use Rattle.pisa_isa.specs.declared.cell.TheConstants.{ROWS}
use Rattle.pisa_image.specs.Rows.{row_number, row_in, row_with}

pub row_again : (op : Op) → row_with (row_number op) ≡ Some op
row_again Add = refl
row_again Sub = refl
row_again Xor = refl
row_again Neg = refl
row_again Addi = refl
row_again Xori = refl
row_again Rl = refl
row_again Rr = refl
row_again Rlv = refl
row_again Rrv = refl
row_again Andx = refl
row_again Orx = refl
row_again Norx = refl
row_again Sltx = refl
row_again Andix = refl
row_again Orix = refl
row_again Sllx = refl
row_again Srlx = refl
row_again Srax = refl
row_again Sllvx = refl
row_again Srlvx = refl
row_again Sravx = refl
row_again Exch = refl
row_again Swapbr = refl
row_again Bra = refl
row_again Rbra = refl
row_again Beq = refl
row_again Bne = refl
row_again Bgez = refl
row_again Bgtz = refl
row_again Blez = refl
row_again Bltz = refl
row_again Start = refl
row_again Finish = refl
row_again DataWord = refl

-- rows whose numbers count up from n
record Numbered (n : ℕ) (rows : List Op) : Type 0 where
  at_place : (k : ℕ) (op : Op) → slice_get rows k ≡ Some op → row_number op ≡ k + n

count_up : ℕ → List Op → Bool
count_up n [] = true
count_up n (op ∷ rows) = nat_eq (row_number op) n && count_up (suc n) rows

numbered : (n : ℕ) (rows : List Op) → count_up n rows ≡ true → Numbered n rows
unfolding count_up
numbered n [] e = record { at_place = λ k op s. absurd (nothing k op s) }
  where
    nothing : (k : ℕ) (op : Op) → slice_get [] k ≡ Some op → ⊥
    nothing zero op s = cc
    nothing (suc k) op s = cc
numbered n (op ∷ rows) e =
    let g = and_parts (nat_eq (row_number op) n) (count_up (suc n) rows) e in
    let rest = numbered (suc n) rows g.1 in
    record { at_place = λ k x s. here k x s (eqb-true (row_number op) n g.0) rest }
  where
    here : (k : ℕ) (x : Op) → slice_get (op ∷ rows) k ≡ Some x → row_number op ≡ n → Numbered (suc n) rows
        → row_number x ≡ k + n
    here zero x s first rest = let same : op ≡ x = cc in omega (arith, ap row_number same)
    here (suc k) x s first rest = let found : row_number x ≡ k + suc n = rest.at_place k x s in omega arith

in_order : Numbered 1 ROWS
unfolding count_up
in_order = numbered 1 ROWS refl

tested : (b : Bool) (o : Option Op) (op : Op) → cond b None o ≡ Some op → (b ≡ false) × (o ≡ Some op)
tested true o op e = absurd cc
tested false o op e = (refl, e)

pub row_found : (n : ℕ) (op : Op) → row_with n ≡ Some op → n ≡ row_number op
row_found n op e =
    let g = tested (nat_eq n 0) (slice_get ROWS (n - 1)) op e in
    let not_zero : n ≡ 0 → ⊥ = λ z. false_from_eqb n z g.0 in
    let number : row_number op ≡ (n - 1) + 1 = in_order.at_place (n - 1) op g.1 in
    omega (arith, not_zero)
  where
    false_from_eqb : (n : ℕ) → n ≡ 0 → nat_eq n 0 ≡ false → ⊥
    false_from_eqb n z f = grind (arith, nat_tests)

pub row_there : (rows : List Op) (n : ℕ) → (n ≡ 0 → ⊥) → slice_get rows (n - 1) ≡ row_in rows n
row_there rows n h = let f : nat_eq n 0 ≡ false = grind (arith, nat_tests) in rw f refl
