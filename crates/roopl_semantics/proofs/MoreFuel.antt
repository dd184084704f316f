-- A program that ends with some fuel ends the same with more.
use Rattle.std.proofs.Common.{◌≡◌, ℕ, ◌≤◌, nat_le, Bool, true, false, if◌then◌else◌, refl, ap, subst, ◌∙◌, arith, List}
use Rattle.std.proofs.lemmas.Bool.{leb-true, le-leb}
use Rattle.buddy_book.specs.rpp_words.declared.input.FieldWord.{FieldWord}
use Rattle.buddy_book.specs.rpp_words.declared.input.Limits.{Limits}
use Rattle.inverse_rules.specs.rpp_tree.Tree.{Source}
use Rattle.roopl_semantics.specs.Run.{Run, Done, Fault, More}
use Rattle.roopl_semantics.specs.Store.{State}
use Rattle.roopl_semantics.specs.Execution.{Setting, exec}
use Rattle.roopl_semantics.specs.Source.{within, source, starting, main_body}
use Rattle.roopl_semantics.proofs.CostBound.{exec_done_within, exec_fault_within}

-- a run that is over within its fuel
pub record IsDoneWithin {A : Type 0} (fuel : ℕ) (r : Run A) (result : A) (cost : ℕ) : Type 0 where
  pub is : r ≡ Done result cost
  pub in_fuel : cost ≤ fuel

pub record IsFaultWithin {A : Type 0} (fuel : ℕ) (r : Run A) (code cost : ℕ) : Type 0 where
  pub is : r ≡ Fault code cost
  pub in_fuel : cost ≤ fuel

-- the cost of a run that is over, else 0
abbrev pub cost_or_zero : {A : Type 0} → Run A → ℕ
cost_or_zero (Done result cost) = cost
cost_or_zero (Fault code cost) = cost
cost_or_zero More = 0

kept_done : {A : Type 0} (b : Bool) (r : Run A) (result : A) (cost : ℕ) → (if b then r else More) ≡ Done result cost
    → (b ≡ true) × (r ≡ Done result cost)
kept_done true r result cost e = (refl, e)
kept_done false r result cost e = cc

kept_fault : {A : Type 0} (b : Bool) (r : Run A) (code cost : ℕ) → (if b then r else More) ≡ Fault code cost
    → (b ≡ true) × (r ≡ Fault code cost)
kept_fault true r code cost e = (refl, e)
kept_fault false r code cost e = cc

pub within_done : {A : Type 0} (fuel : ℕ) (r : Run A) (result : A) (cost : ℕ) → within fuel r ≡ Done result cost
    → IsDoneWithin fuel r result cost
within_done {A = A} fuel (Done x c) result cost e =
    let kept = kept_done (nat_le c fuel) (Done x c) result cost e in
    record {
      is = kept.1;
      in_fuel = let P : ℕ → Type 0 = λ k. k ≤ fuel in
          subst P (ap (λ x. cost_or_zero x) kept.1) (leb-true c fuel kept.0);
    }
within_done fuel (Fault d c) result cost e = let kept = kept_done (nat_le c fuel) (Fault d c) result cost e in let no =
    kept.1 in cc
within_done fuel More result cost e = cc

pub within_fault : {A : Type 0} (fuel : ℕ) (r : Run A) (code cost : ℕ) → within fuel r ≡ Fault code cost
    → IsFaultWithin fuel r code cost
within_fault fuel (Done x c) code cost e = let kept = kept_fault (nat_le c fuel) (Done x c) code cost e in let no =
    kept.1 in cc
within_fault {A = A} fuel (Fault d c) code cost e =
    let kept = kept_fault (nat_le c fuel) (Fault d c) code cost e in
    record {
      is = kept.1;
      in_fuel = let P : ℕ → Type 0 = λ k. k ≤ fuel in
          subst P (ap (λ x. cost_or_zero x) kept.1) (leb-true c fuel kept.0);
    }
within_fault fuel More code cost e = cc

pub done_within : {A : Type 0} (fuel : ℕ) (r : Run A) (result : A) (cost : ℕ) → r ≡ Done result cost → cost ≤ fuel
    → within fuel r ≡ Done result cost
done_within fuel r result cost e h = ap (within fuel) e
    ∙ ap (λ b. if b then Done result cost else More) (le-leb cost fuel h)

pub fault_within : {A : Type 0} (fuel : ℕ) (r : Run A) (code cost : ℕ) → r ≡ Fault code cost → cost ≤ fuel
    → within fuel r ≡ Fault code cost
fault_within fuel r code cost e h = ap (within fuel) e
    ∙ ap (λ b. if b then Fault code cost else More) (le-leb cost fuel h)

pub source_done : (program : Source) (limits : Limits) (input : List FieldWord) (n m : ℕ) (end : State) (cost : ℕ)
    → n ≤ m → source program limits input n ≡ Done end cost → source program limits input m ≡ Done end cost
source_done program limits input n m end cost h e =
    let setting : Setting = record { program = program; limits = limits } in
    let first = exec setting n (main_body program) (starting program input) in
    let over = within_done n first end cost e in
    let more = exec_done_within setting n m (main_body program) (starting program input) end cost over.is
    (let l = over.in_fuel in omega arith) in
    done_within m (exec setting m (main_body program) (starting program input)) end cost more
    (let l = over.in_fuel in omega arith)

pub source_fault : (program : Source) (limits : Limits) (input : List FieldWord) (n m code cost : ℕ) → n ≤ m
    → source program limits input n ≡ Fault code cost → source program limits input m ≡ Fault code cost
source_fault program limits input n m code cost h e =
    let setting : Setting = record { program = program; limits = limits } in
    let first = exec setting n (main_body program) (starting program input) in
    let over = within_fault n first code cost e in
    let more = exec_fault_within setting n m (main_body program) (starting program input) code cost over.is
    (let l = over.in_fuel in omega arith) in
    fault_within m (exec setting m (main_body program) (starting program input)) code cost more
    (let l = over.in_fuel in omega arith)
