-- Runs with so much fuel, one after another.
use Rattle.std.proofs.Common.{◌≡◌, ℕ, ◌+◌, ◌-◌, ◌<◌, ◌≤◌, refl, sym, ap, subst, ◌∙◌, arith, Bool, true}
use Rattle.std.proofs.Common.{false, Some, None, if◌then◌else◌}
use Rattle.std.proofs.lemmas.Bool.{leb-true, leb-false, le-leb}
use Rattle.std.specs.Prelude.{nat_le, Option, Result, Ok, Err, IfErr}
use Rattle.std.specs.Result.{IsErrAnd}
use Rattle.source_store.specs.roopl_semantics.Store.{State}
use Rattle.source_store.specs.roopl_semantics.Run.{Run, Done, Fault, More, after_cost, ◌>>=◌, give}
use Rattle.source_steps.specs.declared.stop.Stop.{Stop}
use Rattle.source_steps.specs.declared.stop.Stop.TheVariants as stop
use Rattle.source_steps.specs.Metered.{Metered, Went, Out, left_of, went, stopped_metered, metered, metered_chain}
use Rattle.source_steps.specs.Metered.{Failed}
use Rattle.source_steps.specs.Metered.{MeteredGives, IsOwn, IsOwnOrFull}

pub left_yes : (fuel cost : ℕ) → cost ≤ fuel → left_of fuel cost ≡ Some (fuel - cost)
left_yes fuel cost h = ap (λ b. if b then Some (fuel - cost) else None) (le-leb cost fuel h)

not_le : (a b : ℕ) → b < a → nat_le a b ≡ false
not_le a b l = by_test (nat_le a b) refl
  where
    by_test : (t : Bool) → nat_le a b ≡ t → nat_le a b ≡ false
    by_test true k = let m = leb-true a b k in absurd (omega arith)
    by_test false k = k

pub left_no : (fuel cost : ℕ) → fuel < cost → left_of fuel cost ≡ None
left_no fuel cost h = ap (λ b. if b then Some (fuel - cost) else None) (not_le cost fuel h)

pub left_none : (fuel : ℕ) → left_of fuel 0 ≡ Some fuel
left_none fuel = left_yes fuel 0 (omega arith) ∙ ap (λ k. Some k) (omega arith)

-- fuel after two costs, one after the other
abbrev then_left : Option ℕ → ℕ → Option ℕ
then_left None more = None
then_left (Some left) more = left_of left more

left_sum : (fuel cost more : ℕ) → left_of fuel (cost + more) ≡ then_left (left_of fuel cost) more
left_sum fuel cost more = by (nat_le cost fuel) refl (nat_le more (fuel - cost)) refl
  where
    by : (t : Bool) → nat_le cost fuel ≡ t → (u : Bool) → nat_le more (fuel - cost) ≡ u
        → left_of fuel (cost + more) ≡ then_left (left_of fuel cost) more
    by false e u f =
        let l : fuel < cost = leb-false cost fuel e in
        left_no fuel (cost + more) (omega arith) ∙ ap (λ o. then_left o more) (sym (left_no fuel cost l))
    by true e true f =
        let l : cost ≤ fuel = leb-true cost fuel e in
        let m : more ≤ fuel - cost = leb-true more (fuel - cost) f in
        let d : fuel - (cost + more) ≡ fuel - cost - more = omega arith in
        left_yes fuel (cost + more) (omega arith) ∙ (ap (λ k. Some k) d
        ∙ (sym (left_yes (fuel - cost) more m) ∙ ap (λ o. then_left o more) (sym (left_yes fuel cost l))))
    by true e false f =
        let l : cost ≤ fuel = leb-true cost fuel e in
        let m : fuel - cost < more = leb-false more (fuel - cost) f in
        left_no fuel (cost + more) (omega arith) ∙ (sym (left_no (fuel - cost) more m)
        ∙ ap (λ o. then_left o more) (sym (left_yes fuel cost l)))

-- a run with the fuel that is left, if any is
abbrev pub with_left : {A : Type 0} → Option ℕ → Run A → Metered A
with_left None run = Out
with_left (Some left) run = metered left run

went_left : {A : Type 0} (o : Option ℕ) (x : A) (cost : ℕ) → went x (then_left o cost) ≡ with_left o (Done x cost)
went_left None x cost = refl
went_left (Some left) x cost = refl

stopped_left : {A : Type 0} (o : Option ℕ) (code cost : ℕ)
    → stopped_metered {A = A} code (then_left o cost) ≡ with_left o (Fault code cost)
stopped_left None code cost = refl
stopped_left (Some left) code cost = refl

out_left : {A : Type 0} (o : Option ℕ) → Out ≡ with_left {A = A} o More
out_left None = refl
out_left (Some left) = refl

pub metered_after : {A : Type 0} (fuel cost : ℕ) (run : Run A)
    → metered fuel (after_cost cost run) ≡ with_left (left_of fuel cost) run
metered_after fuel cost (Done x more) = ap (went x) (left_sum fuel cost more) ∙ went_left (left_of fuel cost) x more
metered_after fuel cost (Fault code more) = ap (stopped_metered code) (left_sum fuel cost more)
    ∙ stopped_left (left_of fuel cost) code more
metered_after fuel cost More = out_left (left_of fuel cost)

chain_went : {A B : Type 0} (o : Option ℕ) (x : A) (next : A → Run B)
    → with_left o (next x) ≡ metered_chain (went x o) (λ a left. metered left (next a))
chain_went None x next = refl
chain_went (Some left) x next = refl

chain_stopped : {A B : Type 0} (o : Option ℕ) (code : ℕ) (next : A → ℕ → Metered B)
    → stopped_metered code o ≡ metered_chain (stopped_metered {A = A} code o) next
chain_stopped None code next = refl
chain_stopped (Some left) code next = refl

-- a run and then another is that other with the fuel that is left
pub metered_then : {A B : Type 0} (fuel : ℕ) (run : Run A) (next : A → Run B)
    → metered fuel (run >>= next) ≡ metered_chain (metered fuel run) (λ a left. metered left (next a))
metered_then fuel (Done x cost) next = metered_after fuel cost (next x) ∙ chain_went (left_of fuel cost) x next
metered_then fuel (Fault code cost) next = chain_stopped (left_of fuel cost) code (λ a left. metered left (next a))
metered_then fuel More next = refl

-- goes on after a run that went well
pub goes : {A B : Type 0} (fuel left : ℕ) (run : Run A) (a : A) (next : A → Run B) → metered fuel run ≡ Went a left
    → metered fuel (run >>= next) ≡ metered left (next a)
goes fuel left run a next e = metered_then fuel run next ∙ ap (λ m. metered_chain m (λ b l. metered l (next b))) e

-- why the first part stopped is why the whole did
pub fails : {A B : Type 0} (fuel left : ℕ) (run : Run A) (next : A → Run B) (why : Stop)
    → Failed why left (metered fuel run) → Failed why left (metered fuel (run >>= next))
fails fuel left run next (stop.Fault code) e = metered_then fuel run next
    ∙ ap (λ m. metered_chain m (λ b l. metered l (next b))) e
fails fuel left run next stop.More e = metered_then fuel run next
    ∙ ap (λ m. metered_chain m (λ b l. metered l (next b))) e
fails fuel left run next (stop.Lacks lack) e = tt

-- a run that stopped by itself did so with no allocation refused
pub either : (why : Stop) → IsOwn why → IsOwnOrFull why
either (stop.Fault code) own = tt
either stop.More own = tt
either (stop.Lacks lack) own = absurd own

pub so_either : {E : Type 0} (result : Result E Stop) → IfErr result IsOwn → IfErr result IsOwnOrFull
so_either (Ok e) own = tt
so_either (Err why) own = either why own

-- gives at no cost
pub gives : {A : Type 0} (fuel : ℕ) (a : A) → metered fuel (give a) ≡ Went a fuel
gives fuel a = ap (went a) (left_none fuel)

-- ---- what is left

pub left_is : {A : Type 0} (fuel cost : ℕ) (x y : A) (left : ℕ) → went x (left_of fuel cost) ≡ Went y left
    → left + cost ≡ fuel
left_is fuel cost x y left e = by (nat_le cost fuel) refl
  where
    by : (t : Bool) → nat_le cost fuel ≡ t → left + cost ≡ fuel
    by true q =
        let l : cost ≤ fuel = leb-true cost fuel q in
        let w : Went x (fuel - cost) ≡ Went y left = sym (ap (went x) (left_yes fuel cost l)) ∙ e in
        let k : fuel - cost ≡ left = cc in
        omega arith
    by false q =
        let w : Out ≡ Went y left = sym (ap (went x) (left_no fuel cost (leb-false cost fuel q))) ∙ e in
        cc

pub left_at_most : {A : Type 0} (fuel : ℕ) (run : Run A) (x : A) (left : ℕ) → metered fuel run ≡ Went x left
    → left ≤ fuel
left_at_most fuel (Done y cost) x left e = let k = left_is fuel cost y x left e in omega arith
left_at_most {A = A} fuel (Fault code cost) x left e = absurd (no_end (left_of fuel cost) e)
  where
    no_end : (o : Option ℕ) → stopped_metered {A = A} code o ≡ Went x left → ⊥
    no_end None q = cc
    no_end (Some k) q = cc
left_at_most fuel More x left e = cc

-- an error that is passed on
pub handed : {E : Type 0} (result : Result E Stop) (why : Stop) (g : E → State) (left : ℕ) (run : Metered State)
    → IsErrAnd result (λ e. e ≡ why) → Failed why left run → MeteredGives g result left run
handed (Ok x) why g left run e k = absurd e
handed (Err e) why g left run same k = subst (λ w. Failed w left run) (sym same) k
