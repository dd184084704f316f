-- Values that move out of cells of which no two are one: the same in any order.
use Rattle.std.proofs.Common.{◌≡◌, ◌≢◌, ℕ, zero, suc, Bool, true, false, List, [], ◌∷◌, map, Some, refl, sym, ap, ◌∙◌}
use Rattle.std.proofs.Common.{subst, arith}
use Rattle.std.specs.Prelude.{nat_eq, if◌then◌else◌, slice_get, slice_set}
use Rattle.std.proofs.lemmas.Bool.Decides.{nat_tests}
use Rattle.refine_form.specs.roopl_semantics.Store.{Value, Binding, Object, Store, State, cleared, object_named}
use Rattle.refine_form.specs.roopl_semantics.Store.{object_at}
use Rattle.refine_form.specs.roopl_semantics.Store.{changed_at}
use Rattle.refine_form.specs.roopl_semantics.Value.{Cell, Slot, Part, read, written, with_value, value_at}
use Rattle.refine_form.specs.roopl_semantics.Execution.{moved_out}
use Rattle.refine_form.specs.Form.{World, Scope}
use Rattle.method_calls.specs.Facts.{KnownCalls, FrameFacts, out_from, vals_from}
use Rattle.method_calls.specs.Laws.{NotAmong, AllApart}
use Rattle.refine_form.specs.rpp_tree.declared.tree.Ident.{Ident}
use Rattle.method_calls.proofs.Moves.{cells_of}
use Rattle.method_calls.proofs.OwnCalls.{MovesAlike}

-- ---- frames

get_with : (frame : List Binding) (i j : ℕ) (v : Value) → i ≢ j → slice_get (with_value frame i v) j ≡ slice_get frame j
get_with [] i j v n = refl
get_with (b ∷ frame) zero zero v n = absurd (n refl)
get_with (b ∷ frame) zero (suc j) v n = refl
get_with (b ∷ frame) (suc i) zero v n = refl
get_with (b ∷ frame) (suc i) (suc j) v n = get_with frame i j v (λ e. n (ap suc e))

with_with : (frame : List Binding) (i j : ℕ) (x y : Value) → i ≢ j
    → with_value (with_value frame i x) j y ≡ with_value (with_value frame j y) i x
with_with [] i j x y n = refl
with_with (b ∷ frame) zero zero x y n = absurd (n refl)
with_with (b ∷ frame) zero (suc j) x y n = refl
with_with (b ∷ frame) (suc i) zero x y n = refl
with_with (b ∷ frame) (suc i) (suc j) x y n = ap (λ f. b ∷ f) (with_with frame i j x y (λ e. n (ap suc e)))

get_set : {A : Type 0} (l : List A) (i j : ℕ) (v : A) → i ≢ j → slice_get (slice_set l i v) j ≡ slice_get l j
get_set [] i j v n = refl
get_set (b ∷ l) zero zero v n = absurd (n refl)
get_set (b ∷ l) zero (suc j) v n = refl
get_set (b ∷ l) (suc i) zero v n = refl
get_set (b ∷ l) (suc i) (suc j) v n = get_set l i j v (λ e. n (ap suc e))

set_set_other : {A : Type 0} (l : List A) (i j : ℕ) (x y : A) → i ≢ j
    → slice_set (slice_set l i x) j y ≡ slice_set (slice_set l j y) i x
set_set_other [] i j x y n = refl
set_set_other (b ∷ l) zero zero x y n = absurd (n refl)
set_set_other (b ∷ l) zero (suc j) x y n = refl
set_set_other (b ∷ l) (suc i) zero x y n = refl
set_set_other (b ∷ l) (suc i) (suc j) x y n = ap (λ f. b ∷ f) (set_set_other l i j x y (λ e. n (ap suc e)))

-- ---- stores

changed_here : (n : ℕ) (o : Object) (store : Store) (a : ℕ) (f : Object → Object) → nat_eq n a ≡ true
    → changed_at ((n, o) ∷ store) a f ≡ (n, f o) ∷ store
changed_here n o store a f e = ap (λ b. if b then (n, f o) ∷ store else (n, o) ∷ changed_at store a f) e

changed_there : (n : ℕ) (o : Object) (store : Store) (a : ℕ) (f : Object → Object) → nat_eq n a ≡ false
    → changed_at ((n, o) ∷ store) a f ≡ (n, o) ∷ changed_at store a f
changed_there n o store a f e = ap (λ b. if b then (n, f o) ∷ store else (n, o) ∷ changed_at store a f) e

named_here : (n : ℕ) (o : Object) (store : Store) (a : ℕ) → nat_eq n a ≡ true → object_named ((n, o) ∷ store) a ≡ Some o
named_here n o store a e = ap (λ b. if b then Some o else object_named store a) e

named_there : (n : ℕ) (o : Object) (store : Store) (a : ℕ) → nat_eq n a ≡ false
    → object_named ((n, o) ∷ store) a ≡ object_named store a
named_there n o store a e = ap (λ b. if b then Some o else object_named store a) e

is_same : (n a : ℕ) → nat_eq n a ≡ true → n ≡ a
is_same n a e = grind (arith, nat_tests, e)

differs : (n a b : ℕ) → nat_eq n a ≡ true → a ≢ b → nat_eq n b ≡ false
differs n a b e ne = by (nat_eq n b) refl
  where
    by : (x : Bool) → nat_eq n b ≡ x → nat_eq n b ≡ false
    by true q = absurd (ne (sym (is_same n a e) ∙ is_same n b q))
    by false q = q

named_other : (store : Store) (a b : ℕ) (f : Object → Object) → a ≢ b
    → object_named (changed_at store a f) b ≡ object_named store b
named_other [] a b f ne = refl
named_other ((n, o) ∷ store) a b f ne = by (nat_eq n a) refl (nat_eq n b) refl (named_other store a b f ne)
  where
    by : (x : Bool) → nat_eq n a ≡ x → (y : Bool) → nat_eq n b ≡ y
        → object_named (changed_at store a f) b ≡ object_named store b
        → object_named (changed_at ((n, o) ∷ store) a f) b ≡ object_named ((n, o) ∷ store) b
    by true e y q ih = let d = differs n a b e ne in ap (λ s. object_named s b) (changed_here n o store a f e)
        ∙ named_there n (f o) store b d ∙ sym (named_there n o store b d)
    by false e true q ih = ap (λ s. object_named s b) (changed_there n o store a f e)
        ∙ named_here n o (changed_at store a f) b q ∙ sym (named_here n o store b q)
    by false e false q ih = ap (λ s. object_named s b) (changed_there n o store a f e)
        ∙ named_there n o (changed_at store a f) b q ∙ ih ∙ sym (named_there n o store b q)

changed_other : (store : Store) (a b : ℕ) (f g : Object → Object) → a ≢ b
    → changed_at (changed_at store a f) b g ≡ changed_at (changed_at store b g) a f
changed_other [] a b f g ne = refl
changed_other ((n, o) ∷ store) a b f g ne = by (nat_eq n a) refl (nat_eq n b) refl (changed_other store a b f g ne)
  where
    by : (x : Bool) → nat_eq n a ≡ x → (y : Bool) → nat_eq n b ≡ y
        → changed_at (changed_at store a f) b g ≡ changed_at (changed_at store b g) a f
        → changed_at (changed_at ((n, o) ∷ store) a f) b g ≡ changed_at (changed_at ((n, o) ∷ store) b g) a f
    by true e y q ih =
        let d = differs n a b e ne in
        ap (λ s. changed_at s b g) (changed_here n o store a f e) ∙ changed_there n (f o) store b g d
        ∙ sym (ap (λ s. changed_at s a f) (changed_there n o store b g d)
        ∙ changed_here n o (changed_at store b g) a f e)
    by false e true q ih = ap (λ s. changed_at s b g) (changed_there n o store a f e)
        ∙ changed_here n o (changed_at store a f) b g q ∙ sym
        (ap (λ s. changed_at s a f) (changed_here n o store b g q) ∙ changed_there n (g o) store a f e)
    by false e false q ih =
        ap (λ s. changed_at s b g) (changed_there n o store a f e) ∙ changed_there n o (changed_at store a f) b g q
        ∙ ap (λ s. (n, o) ∷ s) ih
        ∙ sym (ap (λ s. changed_at s a f) (changed_there n o store b g q)
        ∙ changed_there n o (changed_at store b g) a f e)

changed_twice : (store : Store) (a : ℕ) (f g : Object → Object) → ((o : Object) → g (f o) ≡ f (g o))
    → changed_at (changed_at store a f) a g ≡ changed_at (changed_at store a g) a f
changed_twice [] a f g c = refl
changed_twice ((n, o) ∷ store) a f g c = by (nat_eq n a) refl (changed_twice store a f g c)
  where
    by : (x : Bool) → nat_eq n a ≡ x → changed_at (changed_at store a f) a g ≡ changed_at (changed_at store a g) a f
        → changed_at (changed_at ((n, o) ∷ store) a f) a g ≡ changed_at (changed_at ((n, o) ∷ store) a g) a f
    by true e ih = ap (λ s. changed_at s a g) (changed_here n o store a f e) ∙ changed_here n (f o) store a g e
        ∙ ap (λ x. (n, x) ∷ store) (c o) ∙ sym (ap (λ s. changed_at s a f) (changed_here n o store a g e)
        ∙ changed_here n (g o) store a f e)
    by false e ih = ap (λ s. changed_at s a g) (changed_there n o store a f e)
        ∙ changed_there n o (changed_at store a f) a g e ∙ ap (λ s. (n, o) ∷ s) ih
        ∙ sym (ap (λ s. changed_at s a f) (changed_there n o store a g e)
        ∙ changed_there n o (changed_at store a g) a f e)

get_same : (store : Store) (a i j : ℕ) (v : Value) → i ≢ j
    → slice_get (object_at (changed_at store a (λ object. record object { cells = slice_set object.cells i v }))
    a).cells j ≡ slice_get (object_at store a).cells j
get_same [] a i j v n = refl
get_same ((m, o) ∷ store) a i j v n = by (nat_eq m a) refl (get_same store a i j v n)
  where
    by : (x : Bool) → nat_eq m a ≡ x → slice_get (object_at
        (changed_at store a (λ object. record object { cells = slice_set object.cells i v })) a).cells j
        ≡ slice_get (object_at store a).cells j → slice_get
        (object_at (changed_at ((m, o) ∷ store) a (λ object. record object { cells = slice_set object.cells i v }))
        a).cells j ≡ slice_get (object_at ((m, o) ∷ store) a).cells j
    by true e ih =
        ap (λ s. slice_get (object_at s a).cells j) (changed_here m o store a
        (λ object. record object { cells = slice_set object.cells i v }) e)
        ∙ ap (λ x. slice_get (package.Rattle.std.specs.Option.unwrap_or x
        package.Rattle.refine_form.specs.roopl_semantics.Store.no_object).cells j)
        (named_here m (record o { cells = slice_set o.cells i v }) store a e)
        ∙ get_set o.cells i j v n
        ∙ sym (ap (λ x. slice_get (package.Rattle.std.specs.Option.unwrap_or x
        package.Rattle.refine_form.specs.roopl_semantics.Store.no_object).cells j) (named_here m o store a e))
    by false e ih =
        ap (λ s. slice_get (object_at s a).cells j) (changed_there m o store a
        (λ object. record object { cells = slice_set object.cells i v }) e)
        ∙ ap (λ x. slice_get (package.Rattle.std.specs.Option.unwrap_or x
        package.Rattle.refine_form.specs.roopl_semantics.Store.no_object).cells j)
        (named_there m o (changed_at store a (λ object. record object { cells = slice_set object.cells i v })) a e)
        ∙ ih
        ∙ sym (ap (λ x. slice_get (package.Rattle.std.specs.Option.unwrap_or x
        package.Rattle.refine_form.specs.roopl_semantics.Store.no_object).cells j) (named_there m o store a e))

-- ---- cells

same_name : (m n i j : ℕ) → (Part m i ≢ Part n j) → m ≡ n → i ≢ j
same_name m n i j ne e q = ne (ap (λ z. Part z i) e ∙ ap (Part n) q)

pub read_other : (st : State) (a b : Cell) (v : Value) → a ≢ b → read (written st a v) b ≡ read st b
read_other st (Slot i) (Slot j) v ne = ap package.Rattle.refine_form.specs.roopl_semantics.Value.binding_value
    (get_with st.frame i j v (λ e. ne (ap Slot e)))
read_other st (Slot i) (Part n j) v ne = refl
read_other st (Part m i) (Slot j) v ne = refl
read_other st (Part m i) (Part n j) v ne = by (nat_eq m n) refl
  where
    by : (x : Bool) → nat_eq m n ≡ x → read (written st (Part m i) v) (Part n j) ≡ read st (Part n j)
    by true e =
        let q = is_same m n e in
        ap (λ l. package.Rattle.std.specs.Option.unwrap_or l package.Rattle.refine_form.specs.roopl_semantics.Store.Nil)
        (subst (λ z. slice_get (object_at (changed_at st.store m
        (λ object. record object { cells = slice_set object.cells i v })) z).cells j
        ≡ slice_get (object_at st.store z).cells j) q (get_same st.store m i j v (same_name m n i j ne q)))
    by false e =
        let far : m ≢ n = λ q. absurd (grind (arith, nat_tests, e, q)) in
        ap (λ o. package.Rattle.std.specs.Option.unwrap_or (slice_get
        (package.Rattle.std.specs.Option.unwrap_or o
        package.Rattle.refine_form.specs.roopl_semantics.Store.no_object).cells
        j) package.Rattle.refine_form.specs.roopl_semantics.Store.Nil)
        (named_other st.store m n (λ object. record object { cells = slice_set object.cells i v }) far)

pub written_other : (st : State) (a b : Cell) (x y : Value) → a ≢ b
    → written (written st a x) b y ≡ written (written st b y) a x
written_other st (Slot i) (Slot j) x y ne = ap (λ f. record st { frame = f })
    (with_with st.frame i j x y (λ e. ne (ap Slot e)))
written_other st (Slot i) (Part n j) x y ne = refl
written_other st (Part m i) (Slot j) x y ne = refl
written_other st (Part m i) (Part n j) x y ne = by (nat_eq m n) refl
  where
    by : (z : Bool) → nat_eq m n ≡ z → written (written st (Part m i) x) (Part n j) y
        ≡ written (written st (Part n j) y) (Part m i) x
    by true e =
        let q = is_same m n e in
        ap (λ s. record st { store = s }) (subst (λ z. changed_at
        (changed_at st.store m (λ object. record object { cells = slice_set object.cells i x })) z
        (λ object. record object { cells = slice_set object.cells j y })
        ≡ changed_at (changed_at st.store z (λ object. record object { cells = slice_set object.cells j y })) m
        (λ object. record object { cells = slice_set object.cells i x })) q
        (changed_twice st.store m (λ object. record object { cells = slice_set object.cells i x })
        (λ object. record object { cells = slice_set object.cells j y })
        (λ o. ap (λ l. record o { cells = l }) (set_set_other o.cells i j x y (same_name m n i j ne q)))))
    by false e =
        let far : m ≢ n = λ q. absurd (grind (arith, nat_tests, e, q)) in
        ap (λ s. record st { store = s }) (changed_other st.store m n
        (λ object. record object { cells = slice_set object.cells i x })
        (λ object. record object { cells = slice_set object.cells j y }) far)

-- ---- lists of cells

pub out_reads : (cells : List Cell) (c : Cell) (st : State) → NotAmong c cells → read (out_from cells st) c ≡ read st c
out_reads [] c st n = refl
out_reads (b ∷ cells) c st n = read_other (out_from cells st) b c (cleared (read (out_from cells st) b))
    (λ e. n.0 (sym e)) ∙ out_reads cells c st n.1

out_writes : (cells : List Cell) (c : Cell) (v : Value) (st : State) → NotAmong c cells
    → out_from cells (written st c v) ≡ written (out_from cells st) c v
out_writes [] c v st n = refl
out_writes (b ∷ cells) c v st n =
    ap (λ s. written s b (cleared (read s b))) (out_writes cells c v st n.1)
    ∙ ap (λ x. written (written (out_from cells st) c v) b (cleared x)) (read_other (out_from cells st) c b v n.0)
    ∙ written_other (out_from cells st) c b v (cleared (read (out_from cells st) b)) n.0

pub moves_out : (cells : List Cell) (st : State) → AllApart cells → moved_out cells st ≡ out_from cells st
moves_out [] st a = refl
moves_out (c ∷ cells) st a =
    moves_out cells (written st c (cleared (read st c))) a.1
    ∙ out_writes cells c (cleared (read st c)) st a.0
    ∙ ap (λ v. written (out_from cells st) c (cleared v)) (sym (out_reads cells c st a.0))

pub same_values : (cells : List Cell) (st : State) → AllApart cells → map (read st) cells ≡ vals_from cells st
same_values [] st a = refl
same_values (c ∷ cells) st a = ap (λ v. v ∷ map (read st) cells) (sym (out_reads cells c st a.0))
    ∙ ap (λ l. read (out_from cells st) c ∷ l) (same_values cells st a.1)

-- so arguments whose cells are apart may move in any order
pub moves_alike : (w : World) (knows : KnownCalls w) (f : FrameFacts w knows) (s : Scope) (args : List Ident)
    → ((u : w.Under) (st : State) (cells : List ℕ) → w.opens s u [] st cells → AllApart (cells_of w knows f s u args))
    → MovesAlike w knows f s args
moves_alike w knows f s args apart u st cells h = (
  moves_out (cells_of w knows f s u args) st (apart u st cells h),
  same_values (cells_of w knows f s u args) st (apart u st cells h),
)
