-- Texts with names, filled so many times.
use Rattle.std.proofs.Common.{◌≡◌, ℕ, zero, suc, ◌-◌, ◌<◌, Bool, true, false, cond, List, Option, Some, None, refl, sym, ap, ◌∙◌, arith}
use Rattle.std.specs.Str.{bytes_eq}
use lib.Pointwise.{bytes_decides}
use Rattle.std.specs.Option.{option_or}
use Rattle.row_parts.specs.Names.{Named, filled_once, filled_times}

pub no_round : (names : Named) (text : List ℕ) → filled_times 0 names text ≡ text
unfolding filled_times
no_round names text = refl

pub one_round : (rounds : ℕ) (names : Named) (text : List ℕ) → 0 < rounds
    → filled_times rounds names text ≡ filled_times (rounds - 1) names (filled_once names text)
unfolding filled_times
one_round zero names text some = absurd (omega arith)
one_round (suc rounds) names text some =
    let same : rounds ≡ suc rounds - 1 = omega arith in
    ap (λ n. filled_times n names (filled_once names text)) same

-- a round that changes nothing is the last
pub last_round : (rounds : ℕ) (names : Named) (text : List ℕ) → filled_once names text ≡ text
    → filled_times rounds names text ≡ text
unfolding filled_times
last_round zero names text e = refl
last_round (suc rounds) names text e = ap (filled_times rounds names) e ∙ last_round rounds names text e

-- the last text with a name counts
pub last_counts : {A : Type 0} (later : Option A) (is_it : Bool) (text : A) (found : Option A)
    → option_or (option_or later (cond is_it (Some text) None)) found
    ≡ option_or later (cond is_it (Some text) found)
last_counts (Some x) is_it text found = refl
last_counts None true text found = refl
last_counts None false text found = refl

pub same_bytes : (a b : List ℕ) → bytes_eq a b ≡ true → a ≡ b
same_bytes a b e = (bytes_decides a b).0 e

-- a round that gave the same text has all that the rounds left give
pub last_is : (rounds : ℕ) (names : Named) (made next whole : List ℕ) → next ≡ filled_once names made
    → next ≡ made → filled_times rounds names made ≡ whole → next ≡ whole
last_is rounds names made next whole is_next same e =
    same ∙ (sym (last_round rounds names made (sym is_next ∙ same)) ∙ e)
