-- The texts of image files, one after the other.
use Rattle.std.proofs.Common.{◌≡◌, ◌∙◌, sym, ap, subst, ℕ, ◌≤◌, List, [], ◌∷◌, ◌++◌, length, Option, Result}
use Rattle.std.proofs.Common.{Ok, Err, append_assoc}
use Rattle.std.specs.Prelude.{IfOk}
use Rattle.command_plan.specs.rpp_ports.Ports.{Texts, IsTextOf}
use Rattle.command_plan.specs.declared.reading.TheConstants.{MOST_IMAGE}
use Rattle.command_plan.specs.declared.plan.NoPlan.{NoPlan}
use Rattle.command_plan.specs.Files.{Needed, OnlyReads}
use Rattle.command_plan.specs.Plans.{WithText}
use Rattle.cluster_commands.specs.ClusterPlans.{WithImages}

weaker_images : (told : Option Texts) (names : List (List ℕ)) (P Q : List (List ℕ) → Type 0)
    → ((read : List (List ℕ)) → P read → Q read) → WithImages told names P → WithImages told names Q
weaker_images told [] P Q f h = f [] h
weaker_images told (name ∷ names) P Q f h = record {
  text = h.text;
  is_text = h.is_text;
  within = h.within;
  holds = weaker_images told names (λ rest. P (h.text ∷ rest)) (λ rest. Q (h.text ∷ rest)) (λ rest. f (h.text ∷ rest))
      h.holds;
}

-- one image more
one_more : (told : Option Texts) (name : List ℕ) (names : List (List ℕ)) (bytes : List ℕ)
    (before pushed new : List (List ℕ)) → pushed ≡ before ++ bytes ∷ []
    → IsTextOf told name bytes → length bytes ≤ MOST_IMAGE
    → WithImages told names (λ read. new ≡ pushed ++ read)
    → WithImages told (name ∷ names) (λ read. new ≡ before ++ read)
one_more told name names bytes before pushed new pushed_is is within rest = record {
  text = bytes;
  is_text = is;
  within = within;
  holds = weaker_images told names (λ read. new ≡ pushed ++ read) (λ read. new ≡ before ++ (bytes ∷ read))
      (λ read same. same ∙ ap (λ t. t ++ read) pushed_is ∙ append_assoc before (bytes ∷ []) read) rest;
}

pub text_on : {T : Type 0} (r : Result T NoPlan) (old mid : Option Texts) (name : List ℕ) (names all : List (List ℕ))
    (bytes : List ℕ) (before pushed new : List (List ℕ))
    → mid ≡ old → all ≡ name ∷ names → pushed ≡ before ++ bytes ∷ []
    → IsTextOf old name bytes → length bytes ≤ MOST_IMAGE
    → IfOk r (λ _. WithImages mid names (λ read. new ≡ pushed ++ read))
    → IfOk r (λ _. WithImages old all (λ read. new ≡ before ++ read))
text_on (Err e) old mid name names all bytes before pushed new kept all_is pushed_is is within rest = tt
text_on (Ok u) old mid name names all bytes before pushed new kept all_is pushed_is is within rest =
    subst (λ list. WithImages old list (λ read. new ≡ before ++ read)) (sym all_is)
    (one_more old name names bytes before pushed new pushed_is is within
    (subst (λ told. WithImages told names (λ read. new ≡ pushed ++ read)) kept rest))

-- the script and the images that were read
pub plan_read : (old mid : Option Texts) (script : List ℕ) (limit : ℕ) (names : List (List ℕ)) (text : List ℕ)
    (read : List (List ℕ)) (P : List ℕ → List (List ℕ) → Type 0)
    → mid ≡ old → IsTextOf old script text → length text ≤ limit
    → WithImages mid names (λ r. read ≡ r) → P text read
    → WithText old script limit (λ t. WithImages old names (λ r. P t r))
plan_read old mid script limit names text read P kept is within rest h = record {
  text = text;
  is_text = is;
  within = within;
  holds = weaker_images old names (λ r. read ≡ r) (λ r. P text r) (λ r same. subst (P text) same h)
      (subst (λ told. WithImages told names (λ r. read ≡ r)) kept rest);
}

-- what stops a reading stops what is made of it
pub fails_for : {T U : Type 0} (old new : Option Texts) (before now : ℕ) (files : List Needed) (r : Result T NoPlan)
    (e f : NoPlan) (q : Result U NoPlan) → r ≡ Err e → q ≡ Err f → f ≡ e
    → OnlyReads {T = T} old new before now files r → OnlyReads {T = U} old new before now files q
fails_for {T} {U} old new before now files r e f q r_is q_is same reads =
    let h : OnlyReads {T = T} old new before now files (Err e) =
    subst (OnlyReads {T = T} old new before now files) r_is reads in
    let k : OnlyReads {T = U} old new before now files (Err e) =
    record { kept = h.kept; later = h.later; cause = h.cause; first = h.first; whole = tt } in
    subst (OnlyReads {T = U} old new before now files) (sym (q_is ∙ ap Err same)) k
