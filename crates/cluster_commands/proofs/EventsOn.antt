-- Events, one after the other.
use Rattle.std.proofs.Common.{◌≡◌, sym, subst, refl, ℕ, suc, ◌+◌, ◌≤◌, List, [], ◌++◌, length}
use Rattle.std.proofs.Common.{drop, drop_of_length-le, append-nil, arith}
use Rattle.pisa_cluster.specs.Schedules.{Schedule}
use Rattle.cluster_commands.specs.declared.script.Event.{Event}
use Rattle.cluster_commands.specs.ClusterShown.{ShowsAll}

-- what all events print, after a text
pub record Prints (events : List Event) (start : Schedule) (first text : List ℕ) (e : Schedule) : Type 0 where
  pub lines : List ℕ
  pub shows : ShowsAll events start lines e
  pub whole : text ≡ first ++ lines

-- what the events that are left print leads on from here
abbrev pub PrintsOn : List Event → (done : ℕ) → (start : Schedule) → (first : List ℕ) → (c : Schedule) → (text : List ℕ)
    → Type 0
PrintsOn events done start first c text =
    (rest : List ℕ) (e : Schedule) → ShowsAll (drop done events) c rest e → Prints events start first (text ++ rest) e

pub all_done : (events : List Event) (done : ℕ) (start c : Schedule) (first text : List ℕ) → length events ≤ done
    → PrintsOn events done start first c text → Prints events start first text c
all_done events done start c first text le on =
    let none : [] ≡ drop done events = sym (drop_of_length-le events le) in
    subst (λ t. Prints events start first t c) (append-nil text)
    (on [] c (subst (λ xs. ShowsAll xs c [] c) none (refl, refl)))
