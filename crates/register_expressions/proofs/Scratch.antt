-- A memory by its registers: those that code of expressions uses, and the others.
use Rattle.std.proofs.Common.{ℕ, List, [], ◌∷◌}
use Rattle.code_scope.specs.pisa_isa.Machine.{Memory}
use Rattle.register_expressions.specs.Number.{Bases}

pub record Scratch : Type 0 where
  pub address : ℕ
  pub content : ℕ
  pub left : ℕ
  pub right : ℕ
  pub outcome : ℕ
  pub a : ℕ
  pub b : ℕ
  pub item : ℕ
  pub amount : ℕ
  pub place : ℕ
  pub other : ℕ
  pub first : ℕ
  pub second : ℕ
  pub truth : ℕ

-- all 0, except for what a statement keeps
abbrev pub keeping : (amount place other : ℕ) → Scratch
keeping amount place other = record {
  address = 0;
  content = 0;
  left = 0;
  right = 0;
  outcome = 0;
  a = 0;
  b = 0;
  item = 0;
  amount = amount;
  place = place;
  other = other;
  first = 0;
  second = 0;
  truth = 0;
}

abbrev pub registers : Bases → (ℕ → ℕ) → Scratch → List ℕ
registers b f s =
    f 0 ∷ f 1 ∷ f 2 ∷ b.object ∷ b.frame ∷ s.address ∷ s.content ∷ 0 ∷ s.left ∷ s.right ∷ s.outcome
    ∷ f 11 ∷ f 12 ∷ f 13 ∷ f 14 ∷ f 15
    ∷ s.a ∷ s.b ∷ s.item ∷ s.amount ∷ s.place ∷ s.other ∷ s.first ∷ s.second ∷ s.truth
    ∷ f 25 ∷ f 26 ∷ f 27 ∷ f 28 ∷ f 29 ∷ f 30 ∷ f 31 ∷ []

abbrev pub mem : Bases → (ℕ → ℕ) → Scratch → List ℕ → Memory
mem b f s cells = record { regs = registers b f s; cells = cells }
