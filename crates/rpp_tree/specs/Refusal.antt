-- A refusal as its number and its place.
use Rattle.std.specs.Prelude.{ℕ}

pub record Refusal : Type 0 where
  pub number : ℕ
  pub at : ℕ

abbrev pub refused : ℕ → ℕ → Refusal
refused number at = record { number = number; at = at }
