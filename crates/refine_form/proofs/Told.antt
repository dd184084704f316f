-- What the source's runs say, as outcomes of fragments.
use Rattle.std.proofs.Common.{◌≡◌, ℕ, zero, suc, ◌+◌, ◌-◌, refl, sym, ap, ◌∙◌, ◌≤◌, arith}
use Rattle.refine_frame.specs.rpp_tree.Tree.{Statement, Statements, End, Then, joined}
use Rattle.paired_code.specs.Does.{RunResult, Fine, Fault, More, plus, told_then}
use Rattle.refine_frame.specs.roopl_semantics.Run.{Run, Done, Fault as FaultRun, More as MoreRun, after_cost, ◌>>=◌}
use Rattle.refine_frame.specs.roopl_semantics.Store.{State}
use Rattle.refine_frame.specs.roopl_semantics.Execution.{Setting, exec, statement}
use Rattle.refine_form.specs.Form.{run_result, one}

pub told_after : {A : Type 0} (n : ℕ) (r : Run A) → run_result (after_cost n r) ≡ plus n (run_result r)
told_after n (Done a c) = refl
told_after n (FaultRun w c) = refl
told_after n MoreRun = refl

pub told_bind : {A B : Type 0} (r : Run A) (g : A → Run B)
    → run_result (r >>= g) ≡ told_then (run_result r) (λ c a. run_result (g a))
told_bind (Done a c) g = told_after c (g a)
told_bind (FaultRun w c) g = refl
told_bind MoreRun g = refl

-- nothing more is said
pub alone : {A : Type 0} (t : RunResult A) → told_then t (λ c a. Fine a 0) ≡ t
alone (Fine a c) = ap (Fine a) (let e : c + 0 ≡ c = omega arith in e)
alone (Fault w c) = refl
alone More = refl

pub plus_none : {A : Type 0} (t : RunResult A) → plus 0 t ≡ t
plus_none (Fine a c) = ap (Fine a) (let e : 0 + c ≡ c = omega arith in e)
plus_none (Fault w c) = ap (Fault w) (let e : 0 + c ≡ c = omega arith in e)
plus_none More = refl

pub plus_plus : {A : Type 0} (n m : ℕ) (t : RunResult A) → plus n (plus m t) ≡ plus (n + m) t
plus_plus n m (Fine a c) = ap (Fine a) (let e : n + (m + c) ≡ n + m + c = omega arith in e)
plus_plus n m (Fault w c) = ap (Fault w) (let e : n + (m + c) ≡ n + m + c = omega arith in e)
plus_plus n m More = refl

pub then_plus : {A B : Type 0} (n : ℕ) (t : RunResult A) (g : A → RunResult B)
    → plus n (told_then t (λ c a. g a)) ≡ told_then (plus n t) (λ c a. g a)
then_plus n (Fine a c) g = plus_plus n c (g a)
then_plus n (Fault w c) g = refl
then_plus n More g = refl

pub then_then : {A B C : Type 0} (t : RunResult A) (g : A → RunResult B) (h : B → RunResult C)
    → told_then (told_then t (λ c a. g a)) (λ c b. h b) ≡ told_then t (λ c a. told_then (g a) (λ c b. h b))
then_then (Fine a c) g h = sym (then_plus c (g a) h)
then_then (Fault w c) g h = refl
then_then More g h = refl

pub same_then : {A B : Type 0} (t : RunResult A) (g h : A → RunResult B) → ((a : A) → g a ≡ h a)
    → told_then t (λ c a. g a) ≡ told_then t (λ c a. h a)
same_then (Fine a c) g h e = ap (plus c) (e a)
same_then (Fault w c) g h e = refl
same_then More g h e = refl

-- a result of two parts: where each comes from
pub then_fine : {A B : Type 0} (t : RunResult A) (g : ℕ → A → RunResult B) (b : B) (c : ℕ) → told_then t g ≡ Fine b c
    → (a : A) × (c1 : ℕ) × (c2 : ℕ) × (t ≡ Fine a c1) × (g c1 a ≡ Fine b c2) × (c ≡ c1 + c2)
then_fine (Fine a c1) g b c e = go (g c1 a) refl e
  where
    go : (t2 : RunResult _) → g c1 a ≡ t2 → plus c1 t2 ≡ Fine b c
        → (a' : _) × (c1' : ℕ) × (c2 : ℕ) × (Fine a c1 ≡ Fine a' c1') × (g c1' a' ≡ Fine b c2) × (c ≡ c1' + c2)
    go (Fine b2 c2) k h = (
      a,
      c1,
      c2,
      refl,
      k ∙ (let e : b2 ≡ b = cc in ap (λ z. Fine z c2) e),
      (let e : c1 + c2 ≡ c = cc in sym e),
    )
    go (Fault w c2) k h = absurd (cc)
    go More k h = absurd (cc)
then_fine (Fault w c1) g b c e = absurd (cc)
then_fine More g b c e = absurd (cc)

pub plus_fine : {A : Type 0} (n : ℕ) (t : RunResult A) (a : A) (c : ℕ) → plus n t ≡ Fine a c → n ≤ c
plus_fine n (Fine a2 c2) a c e = let k : n + c2 ≡ c = cc in omega arith
plus_fine n (Fault w c2) a c e = absurd (cc)
plus_fine n More a c e = absurd (cc)

-- ---- a statement as it counts in a block, and blocks

-- what a block says: the first statement, and the others with one less fuel
pub told_block : (setting : Setting) (n : ℕ) (s : Statement) (rest : Statements) (st : State)
    → run_result (exec setting (suc n) (Then s rest) st) ≡ told_then (run_result (one setting n s st))
    (λ c a. run_result (exec setting n rest a))
told_block setting n s rest st =
    told_after 1 (statement setting n (exec setting n) s st >>= exec setting n rest)
    ∙ ap (plus 1) (told_bind (statement setting n (exec setting n) s st) (exec setting n rest))
    ∙ then_plus 1 (run_result (statement setting n (exec setting n) s st)) (λ a. run_result (exec setting n rest a))
    ∙ ap (λ t. told_then t (λ c a. run_result (exec setting n rest a)))
    (sym (told_after 1 (statement setting n (exec setting n) s st)))

abbrev pub count : Statements → ℕ
count End = 0
count (Then s rest) = suc (count rest)

-- a block and then another: the second has the fuel that the first left
pub told_joined : (setting : Setting) (n : ℕ) (a b : Statements) (st : State)
    → run_result (exec setting n (joined a b) st) ≡ told_then (run_result (exec setting n a st))
    (λ c st'. run_result (exec setting (n - count a) b st'))
told_joined setting n End b st = let e : n ≡ n - 0 = omega arith in ap (λ k. run_result (exec setting k b st)) e
    ∙ sym (plus_none (run_result (exec setting (n - 0) b st)))
told_joined setting zero (Then s a) b st = refl
told_joined setting (suc n) (Then s a) b st =
    told_block setting n s (joined a b) st
    ∙ same_then (run_result (one setting n s st)) (λ st'. run_result (exec setting n (joined a b) st'))
    (λ st'. told_then (run_result (exec setting n a st')) (λ c st2. run_result (exec setting (n - count a) b st2)))
    (λ st'. told_joined setting n a b st')
    ∙ sym (then_then (run_result (one setting n s st)) (λ st'. run_result (exec setting n a st'))
    (λ st2. run_result (exec setting (n - count a) b st2)))
    ∙ ap (λ t. told_then t (λ c st2. run_result (exec setting (n - count a) b st2))) (sym (told_block setting n s a st))
    ∙ (let e : n - count a ≡ suc n - suc (count a) = omega arith in
    ap (λ k. told_then (run_result (exec setting (suc n) (Then s a) st)) (λ c st2. run_result (exec setting k b st2)))
    e)

-- a block that ends counts each of its statements
pub cost_counts : (setting : Setting) (n : ℕ) (a : Statements) (st st' : State) (c : ℕ)
    → run_result (exec setting n a st) ≡ Fine st' c → count a ≤ c
cost_counts setting n End st st' c e = omega arith
cost_counts setting zero (Then s a) st st' c e = absurd (cc)
cost_counts setting (suc n) (Then s a) st st' c e =
    let q = then_fine (run_result (one setting n s st)) (λ c a'. run_result (exec setting n a a')) st' c
    (sym (told_block setting n s a st) ∙ e) in
    let first : 1 ≤ q.1 = plus_fine 1 (run_result (statement setting n (exec setting n) s st)) q.0 q.1
    (sym (told_after 1 (statement setting n (exec setting n) s st)) ∙ q.3) in
    let others : count a ≤ q.2 = cost_counts setting n a q.0 st' q.2 q.4 in
    omega (arith, first, others, q.5)
