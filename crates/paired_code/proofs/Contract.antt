-- The laws that contracts state, from the rules.
use Rattle.std.proofs.Common.{◌≡◌, ℕ, ◌+◌, Bool, true, false, List, [], ◌∷◌, ◌++◌, length, refl, sym, ap}
use Rattle.std.proofs.Common.{◌∙◌, subst, append_assoc}
use Rattle.std.proofs.lemmas.List.{reverse-append, map-append}
use Rattle.std.specs.Prelude.{not, map, reverse, Result, Ok, Err, IfOk}
use Rattle.code_conventions.specs.pisa_isa.Machine.{Memory}
use Rattle.code_conventions.specs.Cells.{bra}
use Rattle.paired_code.specs.declared.part.Symbol.TheVariants.{Own}
use Rattle.paired_code.specs.declared.part.Symbol.{Symbol}
use Rattle.paired_code.specs.Machine.{Image}
use Rattle.paired_code.specs.Layout.{between, fork, branch_cells, mirror_cells, inverse_sym}
use Rattle.paired_code.specs.Pieces.{Outcome, Done, Trapped, Bad, Still, Runs, Will, then_do, outcome_after, outcome_around, around_no}
use Rattle.paired_code.specs.Laws.{SeqLaw, MirrorLaw, BranchLaw}
use Rattle.paired_code.proofs.Laws.{Next, will_of, runs_of, will_seq, will_seq_back}
use Rattle.paired_code.proofs.Mirrored.{will_mirror, mirror_will}
use Rattle.paired_code.proofs.Branch.{will_branch_yes, will_branch_no}

next : (im : Image) (q : List Symbol) (d : Bool) (o : Outcome) (g : Memory → Outcome)
    → ((m1 : Memory) (k : ℕ) → o ≡ Done m1 k → Runs im q d m1 (g m1))
    → Next (λ m1 k. Will im q d m1 (λ x. outcome_after k x ≡ then_do o g)) (λ x. x ≡ then_do o g) o
next im q d (Done m1 k) g s = will_of im q d m1 (g m1) _ (s m1 k refl) refl
next im q d (Trapped w k) g s = refl
next im q d (Bad w k) g s = refl
next im q d (Still k) g s = refl

pub seq_law : (p q : List Symbol) → SeqLaw p q (p ++ q)
seq_law p q = record {
  ahead = λ im m o g r s. runs_of im (p ++ q) false m (then_do o g)
      (will_seq im p q m _ (will_of im p false m o _ r (next im q false o g s)));
  back = λ im m o g r s. runs_of im (p ++ q) true m (then_do o g)
      (will_seq_back im p q m _ (will_of im q true m o _ r (next im p true o g s)));
}

pub mirror_law : (p : List Symbol) → MirrorLaw p (mirror_cells p)
mirror_law p = record {
  turns = λ im d m o r. runs_of im (mirror_cells p) d m o (will_mirror im p d m _ (will_of im p (not d) m o _ r refl));
  returns = λ im d m o r. runs_of im p (not d) m o (mirror_will im p d m _
      (will_of im (mirror_cells p) d m o _ r refl));
}

pub branch_law : (r : ℕ) (p q : List Symbol) → BranchLaw r p q (branch_cells r p q)
branch_law r p q = record {
  yes_part = λ im d m o nz s keeps. runs_of im (branch_cells r p q) d m (outcome_around 3 3 o)
      (will_branch_yes im d r p q m (λ x. x ≡ o) _ nz (will_of im p d m o _ s refl) (λ m1 k e. keeps m1 k (sym e))
      (λ x e. ap (outcome_around 3 3) e));
  no_part = λ im d m o z s keeps. runs_of im (branch_cells r p q) d m (around_no d o)
      (will_branch_no im d r p q m (λ x. x ≡ o) _ z (will_of im q d m o _ s refl) (λ m1 k e. keeps m1 k (sym e))
      (λ x e. ap (around_no d) e));
}

-- ---- what the code builds

pub if_ok_law : {A E : Type 0} (P : A → Type 0) (r : Result A E) (x : A) → IfOk r (λ p. p ≡ x) → P x → IfOk r P
if_ok_law P (Ok a) x h q = subst P (sym h) q
if_ok_law P (Err a) x h q = tt

pub branch_built : (r n s x x' y y' z : ℕ) (p q c0 c1 c2 c3 c4 c5 c6 c7 c8 : List Symbol) → n ≡ length q → s ≡ length p
    → x ≡ between 0 (3 + n) → x' ≡ between (3 + n) 0 → y ≡ between 0 (5 + s) → y' ≡ between (5 + s) 0 → z ≡ between 3 0
    → c0 ≡ [] → c1 ≡ c0 ++ fork r x [] → c2 ≡ c1 ++ q → c3 ≡ c2 ++ Own (bra y) ∷ [] → c4 ≡ c3 ++ fork r x' []
    → c5 ≡ c4 ++ p → c6 ≡ c5 ++ fork r 3 [] → c7 ≡ c6 ++ Own (bra y') ∷ [] → c8 ≡ c7 ++ fork r z []
    → c8 ≡ branch_cells r p q
branch_built r n s x x' y y' z p q c0 c1 c2 c3 c4 c5 c6 c7 c8 en es ex ex' ey ey' ez e0 e1 e2 e3 e4 e5 e6 e7 e8 =
    let a : x ≡ between 0 (3 + length q) = ex ∙ ap (λ k. between 0 (3 + k)) en in
    let a' : x' ≡ between (3 + length q) 0 = ex' ∙ ap (λ k. between (3 + k) 0) en in
    let b : y ≡ between 0 (5 + length p) = ey ∙ ap (λ k. between 0 (5 + k)) es in
    let b' : y' ≡ between (5 + length p) 0 = ey' ∙ ap (λ k. between (5 + k) 0) es in
    let all : c8 ≡ (((((((fork r (between 0 (3 + length q)) []) ++ q) ++ Own (bra (between 0 (5 + length p))) ∷ [])
    ++ fork r (between (3 + length q) 0) []) ++ p) ++ fork r (between 0 3) [])
    ++ Own (bra (between (5 + length p) 0)) ∷ []) ++ fork r (between 3 0) [] = cc in
    all ∙ simp append_assoc

pub mirrored_is : (p : List Symbol) → map inverse_sym (reverse p) ≡ mirror_cells p
mirrored_is [] = refl
mirrored_is (c ∷ p) =
    ap (map inverse_sym) (reverse-append (c ∷ []) p)
    ∙ map-append inverse_sym (reverse p) (reverse (c ∷ []))
    ∙ ap (λ z. z ++ inverse_sym c ∷ []) (mirrored_is p)
