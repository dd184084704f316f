-- A run before its first step, and one that is over.
use Rattle.std.proofs.Common.{◌≡◌, ◌<◌, ◌≤◌, ℕ, refl, sym, ap, ◌∙◌, arith, List, [], ◌∷◌, map}
use Rattle.std.proofs.Common.{reverse}
use Rattle.std.proofs.Common.{length}
use Rattle.std.specs.Prelude.{Result, Ok, Err, IfOk, IsTrue, true, false}
use Rattle.source_checks.specs.rpp_words.declared.input.FieldWord.{FieldWord}
use Rattle.source_statements.specs.rpp_tree.declared.tree.Var.{Var}
use Rattle.source_statements.specs.rpp_tree.Tree.{Source, Statements, Statement, End, Then}
use Rattle.source_checks.specs.class_rules.declared.method.MethodId.{MethodId}
use Rattle.source_checks.specs.class_rules.Table.{Table, table_of, fields_in}
use Rattle.source_checks.specs.class_rules.Classes.{class_fields, main_of}
use Rattle.source_checks.specs.roopl_semantics.Store.{Value, OfClass, Object, main_name, zero_values}
use Rattle.source_checks.specs.roopl_semantics.Source.{with_input, main_object}
use Rattle.source_checks.specs.source_store.HeapView.{Kept}
use Rattle.source_checks.proofs.source_steps_laws.Tables.{fields_read}
use Rattle.source_checks.specs.source_blocks.declared.frames.Frame.{Frame}
use Rattle.source_checks.specs.source_blocks.declared.run.Run.{Run}
use Rattle.source_checks.specs.source_blocks.Blocks.{statement_count}
use Rattle.source_checks.specs.source_blocks.Tasks.{task_of}
use Rattle.source_checks.specs.source_blocks.Opens.{open_of}
use Rattle.source_checks.specs.source_blocks.Runs.{config_of}
use Rattle.source_execution.specs.Standing.{IsOver, starting_heap}
use Rattle.source_checks.proofs.source_blocks_laws.Blocks.{rest_here, rest_end}

-- ---- the heap

main_is : (program : Source) (table : Table) (main : MethodId) (vars : List Var) (words same : List FieldWord)
    (zeros after : List Value) → table ≡ table_of program → main ≡ table.main → vars ≡ fields_in table main.class
    → zeros ≡ zero_values vars → words ≡ same → after ≡ with_input words zeros
    → ◌≡◌ {A = Object} (record { head = OfClass main.class; count = 1; cells = after }) (main_object program same)
main_is program table main vars words same zeros after e f g h i k =
    let which : main ≡ main_of program = f ∙ ap (λ t. t.main) e in
    let own : vars ≡ class_fields program main.class = g ∙
    (ap (λ t. fields_in t main.class) e ∙ fields_read program main.class) in
    let cells : after ≡ with_input same (zero_values (class_fields program main.class)) = k
    ∙ (ap (λ w. with_input w zeros) i ∙ ap (with_input same) (h ∙ ap (λ vs. zero_values vs) own)) in
    let build : List Value → Object = λ cs. record { head = OfClass main.class; count = 1; cells = cs } in
    let whole : MethodId → Object = λ m. record {
      head = OfClass m.class;
      count = 1;
      cells = with_input same (zero_values (class_fields program m.class));
    } in
    ap build cells ∙ ap whole which

pub heap_is : {E : Type 0} (r : Result Kept E) (order : ℕ) (program : Source) (table : Table) (main : MethodId)
    (vars : List Var) (words same : List FieldWord) (zeros after : List Value)
    → table ≡ table_of program → main ≡ table.main → vars ≡ fields_in table main.class → zeros ≡ zero_values vars
    → words ≡ same → after ≡ with_input words zeros
    → IfOk r (λ heap. heap ≡ record {
      order = order;
      store = (main_name, record { head = OfClass main.class; count = 1; cells = after }) ∷ [];
      log = [];
    })
    → IfOk r (λ heap. heap ≡ starting_heap program same order)
heap_is (Err why) order program table main vars words same zeros after e f g h i k is = tt
heap_is (Ok heap) order program table main vars words same zeros after e f g h i k is =
    let build : Object → Kept = λ (o : Object). record { order = order; store = (main_name, o) ∷ []; log = [] } in
    is ∙ ap build (main_is program table main vars words same zeros after e f g h i k)

-- ---- the end

pub over_is : (run : Run) → run.frames.items ≡ [] → statement_count (task_of run.task) ≤ run.at → IsOver (config_of run)
over_is run f h = record {
  rest = rest_end run.at (task_of run.task) h;
  around = ap (λ (frames : List Frame). map open_of (reverse frames)) f;
}

some_left : (body rest : Statements) (s : Statement) → body ≡ Then s rest → body ≡ End → ⊥
some_left body rest s e f = let no : Then s rest ≡ End = sym e ∙ f in cc

pub not_past : (run : Run) → run.at < statement_count (task_of run.task) → IsOver (config_of run) → ⊥
not_past run h over = some_left _ _ _ (rest_here run.at (task_of run.task) h) over.rest

-- ---- whether a run is over

no_items : (frames : List Frame) → length frames ≡ 0 → frames ≡ []
no_items [] e = refl
no_items (frame ∷ frames) e = absurd (omega arith)

untrue : IsTrue false → ⊥
untrue t = cc

pub alone_is_over : (run : Run) → length run.frames.items ≡ 0 → statement_count (task_of run.task) ≤ run.at
    → (IsTrue true → IsOver (config_of run)) × (IsOver (config_of run) → IsTrue true)
alone_is_over run none past = (λ t. over_is run (no_items run.frames.items none) past, λ o. refl)

pub not_yet_over : (run : Run) → run.at < statement_count (task_of run.task)
    → (IsTrue false → IsOver (config_of run)) × (IsOver (config_of run) → IsTrue false)
not_yet_over run within = (λ t. absurd (untrue t), λ o. absurd (not_past run within o))
