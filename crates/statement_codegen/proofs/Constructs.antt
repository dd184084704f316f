-- The code of `construct`: blocks one after another, and the inverse of the code of `new`.
use Rattle.std.proofs.Common.{◌≡◌, ℕ, suc, ◌+◌, ◌-◌, ◌*◌, ◌≤◌, inr, Bool, true, false, List, [], ◌∷◌, ◌++◌, length}
use Rattle.std.proofs.Common.{refl, sym, ap, ◌∙◌, subst, arith, append-nil, length-append}
use Rattle.std.specs.Prelude.{Result, Ok, Err, IfOk, not}
use Rattle.refine_objects.specs.rpp_tree.declared.tree.Ident.{Ident}
use Rattle.refine_objects.specs.rpp_tree.declared.tree.Var.{Var}
use Rattle.refine_objects.specs.rpp_tree.Tree.{Null, Lvalue, Whole, Creation, Object, Statements, New, Delete, End, Then, joined}
use Rattle.branch_codegen.specs.class_rules.Expressions.{is_int}
use Rattle.branch_codegen.specs.class_rules.Scope.{kind_of}
use Rattle.branch_codegen.specs.class_rules.Table.{table_of, class_of}
use Rattle.branch_codegen.specs.inverse_rules.Inverse.{inverse}
use Rattle.branch_codegen.proofs.inverse_rules_laws.Inverses.{inverse-joined}
use Rattle.branch_codegen.specs.pisa_isa.Machine.{Memory}
use Rattle.branch_codegen.specs.paired_code.declared.part.Symbol.{Symbol}
use Rattle.branch_codegen.specs.paired_code.Code.{Code}
use Rattle.branch_codegen.specs.paired_code.Does.{RunResult, told_then, Meets, in_order}
use Rattle.branch_codegen.specs.paired_code.Layout.{mirror_cells}
use Rattle.branch_codegen.specs.paired_code.Pieces.{Will}
use Rattle.branch_codegen.proofs.paired_code_laws.Does.{will_last}
use Rattle.branch_codegen.proofs.paired_code_laws.Laws.{will_more}
use Rattle.branch_codegen.proofs.paired_code_laws.Mirrored.{will_mirror, length_mirror}
use Rattle.branch_codegen.specs.roopl_semantics.Execution.{exec, constructed}
use Rattle.branch_codegen.specs.roopl_semantics.Store.{State}
use Rattle.branch_codegen.proofs.meaning_sound_laws.Locals.{no_int_class}
use Rattle.refine_form.specs.Form.{World, Scope, HasOpenFrame, Owes, StmtLaw, BlockLaw, turned_statement, run_result}
use Rattle.refine_form.specs.Form.{one, with_var}
use Rattle.refine_form.specs.Worlds.{world_of}
use Rattle.refine_form.specs.Held.{HoldsCode}
use Rattle.refine_form.proofs.Holding.{holds_in}
use Rattle.refine_form.proofs.Blocks.{owes_less, end_law, then_law}
use Rattle.refine_form.proofs.Rules.{meets_less, meets_told, meets_then}
use Rattle.refine_form.proofs.Told.{told_joined, count, cost_counts}
use Rattle.branch_codegen.specs.code_scope.Visible.{Visible, known_in}
use Rattle.statement_codegen.specs.Codes.{scope_of}
use Rattle.statement_codegen.specs.Laws.{LocalLaw, ConstructLaw}
use Rattle.statement_codegen.proofs.Stands.{laid_out, names_same}

-- ---- a block after another

module _ (w : World) (s : Scope) (a b : Statements) (p q : List Symbol) (hp : BlockLaw w s a p) (hq : BlockLaw w s b q)
  where
    abbrev Here : w.Under → State → Memory → Type 0
    Here u st m = HasOpenFrame w s u st m

    ahead : (n : ℕ) → Owes w n → (u : w.Under) (st : State) (m : Memory) → Here u st m
        → Will w.im (p ++ q) false m (Meets (Here u) w.rates n 0 (run_result (exec w.setting n (joined a b) st)))
    ahead n owes u st m h =
        let g : ℕ → State → RunResult State = λ c x. run_result (exec w.setting (n - count a) b x) in
        let all : Will w.im (in_order false (p ∷ q ∷ [])) false m
        (Meets (Here u) w.rates n (0 + 0) (told_then (run_result (exec w.setting n a st)) g)) =
        meets_then w.im false (Here u) (Here u) w.rates n 0 0 p (q ∷ []) m (run_result (exec w.setting n a st)) g
        ((hp n owes false u).does st m h) (λ c x m1 e r.
        let counted : count a ≤ c = cost_counts w.setting n a st x c e in
        will_last w.im false q m1 _ (will_more w.im q false m1 _ _ (λ o t. meets_less (n - c) (omega arith) t)
        ((hq (n - count a) (owes_less w n (n - count a) (omega arith) owes) false u).does x m1 r))) in
        subst (λ z. Will w.im (p ++ z) false m (Meets (Here u) w.rates n 0
        (run_result (exec w.setting n (joined a b) st))))
        (append-nil q)
        (will_more w.im _ false m _ _ (λ o t. meets_told _ _ (sym (told_joined w.setting n a b st)) t) all)

    backward : (n : ℕ) → Owes w n → (u : w.Under) (st : State) (m : Memory) → Here u st m
        → Will w.im (p ++ q) true m (Meets (Here u) w.rates n 0
        (run_result (exec w.setting n (inverse (joined a b)) st)))
    backward n owes u st m h =
        let before = inverse b in
        let g : ℕ → State → RunResult State = λ c x. run_result (exec w.setting (n - count before) (inverse a) x) in
        let all : Will w.im (in_order true (q ∷ p ∷ [])) true m
        (Meets (Here u) w.rates n (0 + 0) (told_then (run_result (exec w.setting n before st)) g)) =
        meets_then w.im true (Here u) (Here u) w.rates n 0 0 q (p ∷ []) m (run_result (exec w.setting n before st)) g
        ((hq n owes true u).does st m h) (λ c x m1 e r.
        let counted : count before ≤ c = cost_counts w.setting n before st x c e in
        will_last w.im true p m1 _ (will_more w.im p true m1 _ _ (λ o t. meets_less (n - c) (omega arith) t)
        ((hp (n - count before) (owes_less w n (n - count before) (omega arith) owes) true u).does x m1 r))) in
        will_more w.im (p ++ q) true m _ _ (λ o t. meets_told _ _
        (sym (ap (λ z. run_result (exec w.setting n z st)) (inverse-joined true a b)
        ∙ told_joined w.setting n before (inverse a) st)) t) all

    joined_law : BlockLaw w s (joined a b) (p ++ q)
    joined_law n owes false u = record { does = λ st m h. ahead n owes u st m h }
    joined_law n owes true u = record { does = λ st m h. backward n owes u st m h }

-- ---- what makes an object, inverted, deletes it

turned_new : (d : Bool) (at : ℕ) (made : Creation) (target : Lvalue)
    → turned_statement (not d) (New at made target) ≡ turned_statement d (Delete at made target)
turned_new false at made target = refl
turned_new true at made target = refl

pub deletes : (w : World) (s : Scope) (at : ℕ) (made : Creation) (target : Lvalue) (p : List Symbol)
    → StmtLaw w s (New at made target) p → StmtLaw w s (Delete at made target) (mirror_cells p)
deletes w s at made target p law n owes d u = record {
  does = λ st m h.
      will_mirror w.im p d m _
      (subst (λ x. Will w.im p (not d) m (Meets (HasOpenFrame w s u) w.rates (suc n) 0
      (run_result (one w.setting n x st))))
      (turned_new d at made target) ((law n owes (not d) u).does st m h));
}

-- ---- construct

constructs : (w : World) (s : Scope) (at : ℕ) (class name : Ident) (body : Statements) (making p : List Symbol)
    → StmtLaw w s (New at (Object class) (Whole name)) making → BlockLaw w s body p
    → BlockLaw w s (constructed at class name body) (making ++ (p ++ mirror_cells making))
constructs w s at class name body making p law block =
    let last = Then (Delete at (Object class) (Whole name)) End in
    let gone : BlockLaw w s last (mirror_cells making) =
    subst (λ z. BlockLaw w s last z) (append-nil (mirror_cells making))
    (then_law w s (Delete at (Object class) (Whole name)) End (mirror_cells making) []
    (deletes w s at (Object class) (Whole name) making law) (end_law w s)) in
    then_law w s (New at (Object class) (Whole name)) (joined body last) making (p ++ mirror_cells making) law
    (joined_law w s body last p (mirror_cells making) block gone)

pub construct_clause : (v : Visible) (at : ℕ) (var : Var) (making p inside all : List Symbol)
    → inside ≡ making ++ (p ++ mirror_cells making) → LocalLaw (known_in v) var (Null at) (Null at) inside all
    → ConstructLaw v at var making p all
construct_clause v at var making p inside all is made = record {
  law = λ class body end of_class few new block. record {
    law = λ place routine linked same.
        let program = place.setting.program in
        let no_int : is_int (kind_of (table_of program) var.kind) ≡ false =
        ap (λ t. is_int (kind_of (table_of program) t)) of_class
        ∙ no_int_class (class_of (table_of program) class.text) in
        made.construct place (laid_out place routine linked) (scope_of v) (names_same v place same) at class body end
        refl refl
        (record { few = few; value = inr (record { no_int = no_int; null = tt }) })
        (subst (λ z. BlockLaw (world_of place) (with_var (scope_of v) var) (constructed at class var.name body) z)
        (sym is)
        (constructs (world_of place) (with_var (scope_of v) var) at class var.name body making p
        (new.law place routine linked same) (block.law place routine linked same)));
  };
}

pub construct_returns : {E : Type 0} (v : Visible) (at : ℕ) (var : Var) (making p inside : List Symbol)
    (r : Result Code E) → inside ≡ making ++ (p ++ mirror_cells making)
    → IfOk r (λ x. LocalLaw (known_in v) var (Null at) (Null at) inside x.cells)
    → IfOk r (λ x. ConstructLaw v at var making p x.cells)
construct_returns v at var making p inside (Ok x) is made = construct_clause v at var making p inside x.cells is made
construct_returns v at var making p inside (Err e) is made = tt

pub construct_held : {E : Type 0} (body inside : Code) (r : Result Code E) → HoldsCode body inside
    → IfOk r (λ x. HoldsCode inside x) → IfOk r (λ x. HoldsCode body x)
construct_held body inside (Ok x) first rest = holds_in body inside x first rest
construct_held body inside (Err e) first rest = tt

pub construct_size : {E : Type 0} (making p inside : List Symbol) (r : Result Code E)
    → inside ≡ making ++ (p ++ mirror_cells making) → IfOk r (λ x. length x.cells ≤ 58 * (1 + 1) + length inside + 12)
    → IfOk r (λ x. length x.cells ≤ 2 * length making + length p + 128)
construct_size making p inside (Ok x) is size =
    let a = ap length is in
    omega (
      arith,
      size,
      a,
      length-append making (p ++ mirror_cells making),
      length-append p (mirror_cells making),
      length_mirror making,
    )
construct_size making p inside (Err e) is size = tt
