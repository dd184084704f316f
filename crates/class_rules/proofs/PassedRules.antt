-- What follows from a rule of types that refuses nothing.
use Rattle.std.proofs.Common.{◌≡◌, ◌∙◌, refl, ap, sym, subst, ℕ, Bool, true, false, Option, Some, None}
use Rattle.std.specs.Prelude.{Result, Ok, Err, ◌&&◌, ◌||◌, not}
use Rattle.std.specs.Option.{ok_or}
use Rattle.class_rules.specs.Refusal.{Refusal}
use Rattle.class_rules.specs.declared.kind.Kind.{Kind}
use Rattle.class_rules.specs.declared.kind.Kind.TheVariants as kind
use Rattle.class_rules.specs.Expressions.{then_checked, is_int}
use Rattle.class_rules.specs.Statements.{Verdict, verdict_passed, required, in_turn, same_kind}
use Rattle.std.proofs.lemmas.Bool.{eqb-true}

pub both_passed : (a b : Verdict) → in_turn a b ≡ verdict_passed → (a ≡ verdict_passed) × (b ≡ verdict_passed)
both_passed (Ok v) b h = (refl, h)
both_passed (Err e) b h = absurd (cc)

pub in_turn_passes : (a b : Verdict) → a ≡ verdict_passed → b ≡ verdict_passed → in_turn a b ≡ verdict_passed
in_turn_passes a b e f = ap (λ z. in_turn z b) e ∙ f

pub held : (b : Bool) (e : Refusal) → required b e ≡ verdict_passed → b ≡ true
held true e h = refl
held false e h = absurd (cc)

pub required_passes : (b : Bool) (e : Refusal) → b ≡ true → required b e ≡ verdict_passed
required_passes b e h = ap (λ z. required z e) h

-- a rule that passed on its answer
pub record HandedOn {A B : Type 0} (r : Result A Refusal) (next : A → Result B Refusal) (end : Result B Refusal) : Type
    0 where
  pub value : A
  pub is : r ≡ Ok value
  pub goes : next value ≡ end

pub handed_on : {A B : Type 0} (r : Result A Refusal) (next : A → Result B Refusal) (y : B) → then_checked r next ≡ Ok y
    → HandedOn r next (Ok y)
handed_on (Ok value) next y h = record { value = value; is = refl; goes = h }
handed_on (Err e) next y h = absurd (cc)

pub hands_on : {A B : Type 0} (r : Result A Refusal) (next : A → Result B Refusal) (x : A) (end : Result B Refusal)
    → r ≡ Ok x → next x ≡ end → then_checked r next ≡ end
hands_on r next x end e f = ap (λ z. then_checked z next) e ∙ f

pub some_of : {A : Type 0} (o : Option A) (e : Refusal) (x : A) → ok_or o e ≡ Ok x → o ≡ Some x
some_of None e x h = absurd (cc)
some_of (Some y) e x h = let s : y ≡ x = cc in ap (λ z. Some z) s

pub both_true : (a b : Bool) → (a && b) ≡ true → (a ≡ true) × (b ≡ true)
both_true true b h = (refl, h)
both_true false b h = absurd (cc)

pub neither_true : (a b : Bool) → not (a || b) ≡ true → (a ≡ false) × (b ≡ false)
neither_true false false h = (refl, refl)
neither_true false true h = absurd (cc)
neither_true true b h = absurd (cc)

pub int_kind : (k : Kind) → is_int k ≡ true → k ≡ kind.Int
int_kind kind.Int h = refl
int_kind kind.Nil h = absurd (cc)
int_kind (kind.Class c) h = absurd (cc)
int_kind kind.IntArray h = absurd (cc)
int_kind (kind.ClassArray c) h = absurd (cc)

pub kinds_same : (a b : Kind) → same_kind a b ≡ true → a ≡ b
kinds_same kind.Int b h = sym (int_kind b h)
kinds_same kind.Nil kind.Int h = absurd (cc)
kinds_same kind.Nil kind.Nil h = refl
kinds_same kind.Nil (kind.Class c) h = absurd (cc)
kinds_same kind.Nil kind.IntArray h = absurd (cc)
kinds_same kind.Nil (kind.ClassArray c) h = absurd (cc)
kinds_same (kind.Class a) kind.Int h = absurd (cc)
kinds_same (kind.Class a) kind.Nil h = absurd (cc)
kinds_same (kind.Class a) (kind.Class b) h = ap kind.Class (eqb-true a b h)
kinds_same (kind.Class a) kind.IntArray h = absurd (cc)
kinds_same (kind.Class a) (kind.ClassArray b) h = absurd (cc)
kinds_same kind.IntArray kind.Int h = absurd (cc)
kinds_same kind.IntArray kind.Nil h = absurd (cc)
kinds_same kind.IntArray (kind.Class c) h = absurd (cc)
kinds_same kind.IntArray kind.IntArray h = refl
kinds_same kind.IntArray (kind.ClassArray c) h = absurd (cc)
kinds_same (kind.ClassArray a) kind.Int h = absurd (cc)
kinds_same (kind.ClassArray a) kind.Nil h = absurd (cc)
kinds_same (kind.ClassArray a) (kind.Class b) h = absurd (cc)
kinds_same (kind.ClassArray a) kind.IntArray h = absurd (cc)
kinds_same (kind.ClassArray a) (kind.ClassArray b) h = ap kind.ClassArray (eqb-true a b h)

pub same_as_itself : (k : Kind) → same_kind k k ≡ true
same_as_itself kind.Int = refl
same_as_itself kind.Nil = refl
same_as_itself (kind.Class a) = Rattle.std.proofs.Common.eq-eqb a a refl
same_as_itself kind.IntArray = refl
same_as_itself (kind.ClassArray a) = Rattle.std.proofs.Common.eq-eqb a a refl
