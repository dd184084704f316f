-- The start of a run is sound, and so is its end: counts are references.
use Rattle.std.proofs.Common.{◌≡◌, ◌≢◌, ◌∙◌, sym, ap, subst, refl, ℕ, zero, suc, ◌+◌, ◌^◌, ◌<◌, Bool, true, false, List}
use Rattle.std.proofs.Common.{[], ◌∷◌, map, length, Some, None, arith, slice_get, slice_set}
use Rattle.std.proofs.lemmas.Bool.{eqb-true}
use Rattle.std.specs.Prelude.{nat_eq, is_some, IsTrue, All, ◌||◌, if◌then◌else◌}
use Rattle.std.specs.Option.{unwrap_or, option_map}
use Rattle.roopl_semantics.specs.rpp_words.Words.{IsWord}
use Rattle.roopl_semantics.specs.rpp_words.declared.input.FieldWord.{FieldWord}
use Rattle.roopl_semantics.specs.rpp_words.declared.input.Limits.{Limits}
use Rattle.roopl_semantics.specs.rpp_tree.declared.tree.Var.{Var}
use Rattle.roopl_semantics.specs.rpp_tree.declared.tree.VarType.{VarType}
use Rattle.roopl_semantics.specs.rpp_tree.declared.tree.VarType.TheVariants as type
use Rattle.roopl_semantics.specs.rpp_tree.Tree.{Procedure, ClassText, Source}
use Rattle.roopl_semantics.specs.class_rules.declared.kind.Kind.TheVariants as kind
use Rattle.roopl_semantics.specs.class_rules.Members.{class_at, no_class, no_procedure}
use Rattle.roopl_semantics.specs.class_rules.Classes.{procedure_at, inherits}
use Rattle.roopl_semantics.specs.class_rules.Table.{table_of}
use Rattle.roopl_semantics.specs.class_rules.Scope.{Locals}
use Rattle.roopl_semantics.specs.class_rules.Mains.{has_none, mains}
use Rattle.roopl_semantics.specs.class_rules.Statements.{verdict_passed, each_passes_after, check_statements}
use Rattle.roopl_semantics.specs.class_rules.Program.{IsAccepted, parameter_new, with_parameters, setting_in}
use Rattle.roopl_semantics.specs.buddy_book.Book.{start}
use Rattle.roopl_semantics.proofs.buddy_book_laws.Beginning.{start-kept}
use Rattle.roopl_semantics.specs.Run.{Done}
use Rattle.roopl_semantics.specs.Store.{Value, Word, Head, Object, Store, Binding, State, main_name, zero_values}
use Rattle.roopl_semantics.specs.Store.{object_named}
use Rattle.roopl_semantics.specs.Execution.{Setting, exec}
use Rattle.roopl_semantics.specs.Source.{main_fields, main_body, with_input, is_int_type, is_int_field, IsValid}
use Rattle.roopl_semantics.specs.Source.{main_object, starting, source}
use Rattle.roopl_semantics.specs.class_rules.Classes.{main_of}
use Rattle.roopl_semantics.specs.rpp_words.Limits.{IsLimits}
use Rattle.roopl_semantics.specs.Laws.{holders_among, CountsReferences}
use Rattle.roopl_semantics.proofs.MoreFuel.{within_done}
use Rattle.roopl_semantics.proofs.MainPlace.{first_of_mains, table_rules, class_inside}
use Rattle.roopl_semantics.specs.class_rules.Inheritance.{kind_of_var}
use Rattle.meaning_sound.specs.Sound.{head_of, count_of, cell_kinds, AllFit, bound_value, binding_name, held, Sound, Keeps}
use Rattle.meaning_sound.specs.Sound.{main_alone}
use Rattle.meaning_sound.specs.Plain.{IsPlain, ProgramIsPlain}
use Rattle.meaning_sound.proofs.Lists.{all_inside, all_set, holders_set}
use Rattle.meaning_sound.proofs.Stores.{same_number, other_number}
use Rattle.meaning_sound.specs.Kept.{MeansSame}
use Rattle.meaning_sound.proofs.Runs.{ends_done}
use Rattle.roopl_semantics.proofs.class_rules_laws.PassedRules.{both_passed, both_true}
use Rattle.meaning_sound.proofs.Makes.{zeros_fit, zeros_hold_none}
use Rattle.meaning_sound.proofs.Values.{word_fits}
use Rattle.roopl_semantics.proofs.class_rules_laws.FoundMethods.{method_checked}
use Rattle.meaning_sound.proofs.Accepted.{method_plain, knows_classes}
use Rattle.meaning_sound.proofs.Keeping.{exec_keeps}

-- ---- the main object

int_kind_of : (program : Source) (t : VarType) → is_int_type t ≡ true
    → Rattle.roopl_semantics.specs.class_rules.Scope.kind_of (table_of program) t ≡ kind.Int
int_kind_of program type.Int h = refl
int_kind_of program (type.Class name) h = absurd (cc)
int_kind_of program type.IntArray h = absurd (cc)
int_kind_of program (type.ClassArray name) h = absurd (cc)

true_is : (b : Bool) → IsTrue b → b ≡ true
true_is true h = refl
true_is false h = absurd (cc)

int_field_kind : (program : Source) (vars : List Var) (i : ℕ) → is_int_field (slice_get vars i) ≡ true
    → slice_get (map (kind_of_var program) vars) i ≡ Some kind.Int
int_field_kind program [] i h = absurd (cc)
int_field_kind program (var ∷ vars) zero h = ap (λ z. Some z) (int_kind_of program var.kind h)
int_field_kind program (var ∷ vars) (suc i) h = int_field_kind program vars i h

-- each entry of an input is a word for an int field
abbrev InputFits : List Var → List FieldWord → Type 0
InputFits vars [] = Unit {0}
InputFits vars (entry ∷ input) = (is_int_field (slice_get vars entry.field) ≡ true) × (entry.word < 2 ^ 32)
    × InputFits vars input

input_fits : (vars : List Var) (input : List FieldWord)
    → All (λ (entry : FieldWord). IsTrue (is_int_field (slice_get vars entry.field))) input
    → All (λ (entry : FieldWord). IsWord entry.word) input → InputFits vars input
input_fits vars [] ints words = tt
input_fits vars (entry ∷ input) ints words = (
  true_is _ (ints 0 entry (omega arith)),
  (words 0 entry (omega arith)),
  input_fits vars input (λ k d h. ints (suc k) d (omega arith)) (λ k d h. words (suc k) d (omega arith)),
)

filled_fit : (program : Source) (store : Store) (vars : List Var) (input : List FieldWord) (cells : List Value)
    → InputFits vars input → AllFit program store (map (kind_of_var program) vars) cells
    → AllFit program store (map (kind_of_var program) vars) (with_input input cells)
filled_fit program store vars [] cells h all = all
filled_fit program store vars (entry ∷ input) cells h all =
    filled_fit program store vars input (slice_set cells entry.field (Word entry.word)) h.2
    (all_set program store (map (kind_of_var program) vars) cells entry.field kind.Int (Word entry.word) all
    (int_field_kind program vars entry.field h.0) (word_fits program store entry.word h.1))

filled_none : (program : Source) (store : Store) (vars : List Var) (input : List FieldWord) (cells : List Value) (m : ℕ)
    → InputFits vars input → AllFit program store (map (kind_of_var program) vars) cells → holders_among m cells ≡ 0
    → holders_among m (with_input input cells) ≡ 0
filled_none program store vars [] cells m h all none = none
filled_none program store vars (entry ∷ input) cells m h all none =
    let k = int_field_kind program vars entry.field h.0 in
    let inside = all_inside program store (map (kind_of_var program) vars) cells entry.field kind.Int all k in
    let a = holders_set m cells entry.field (Word entry.word) inside in
    filled_none program store vars input (slice_set cells entry.field (Word entry.word)) m h.2
    (all_set program store (map (kind_of_var program) vars) cells entry.field kind.Int (Word entry.word) all k
    (word_fits program store entry.word h.1))
    (omega arith)

pub starting_sound : (program : Source) (limits : Limits) (input : List FieldWord) → IsLimits limits
    → IsValid program input → Sound (record { program = program; limits = limits }) main_alone []
    (main_of program).class (starting program input)
starting_sound program limits input inside valid =
    let setting : Setting = record { program = program; limits = limits } in
    let first = starting program input in
    let object = main_object program input in
    let fit = input_fits (main_fields program) input valid.ints valid.words in
    let none : (m : ℕ) → holders_among m object.cells ≡ 0 =
    λ m. filled_none program first.store (main_fields program) input (zero_values (main_fields program)) m fit
    (zeros_fit program first.store (main_fields program)) (zeros_hold_none (main_fields program) m) in
    record {
      names = refl;
      variables = tt;
      objects = λ n o q. objects_of n o (nat_eq main_name n) refl q
          (filled_fit program first.store (main_fields program) input (zero_values (main_fields program)) fit
          (zeros_fit program first.store (main_fields program)));
      counts = λ n c q. counts_of n c (nat_eq main_name n) refl q (none n);
      lives = λ n p. lives_of n (nat_eq n main_name) refl p;
      self_is = ap (λ b. b || inherits program (main_of program).class (main_of program).class)
          (same_number (main_of program).class);
      self_held = omega arith;
      main_extra = refl;
      main_unheld = let a = none main_name in omega arith;
      fresh = (omega arith, tt);
      placed = record {
        at = record { book = start limits.heap; blocks = [] };
        placed = refl;
        names = refl;
        taken = [];
        kept = start-kept limits.heap 0 inside.heap_from inside.heap_to (omega arith);
        orders = λ n head q no_main. absurd (only n head (nat_eq main_name n) refl q no_main);
        apart = λ n m a b c d e f. absurd (lives_only n (nat_eq main_name n) refl a c);
      };
    }
  where
    objects_of : (n : ℕ) (o : Object) (b : Bool) → nat_eq main_name n ≡ b
        → (if b then Some (main_object program input) else None) ≡ Some o
        → AllFit program (starting program input).store (map (kind_of_var program) (main_fields program))
        (main_object program input).cells → AllFit program (starting program input).store (cell_kinds program o.head)
        o.cells
    objects_of n o true e q all = let s : main_object program input ≡ o = cc in
        subst (λ (z : Object). AllFit program (starting program input).store (cell_kinds program z.head) z.cells) s all
    objects_of n o false e q all = absurd (cc)

    counts_of : (n c : ℕ) (b : Bool) → nat_eq main_name n ≡ b
        → option_map count_of (if b then Some (main_object program input) else None) ≡ Some c
        → holders_among n (main_object program input).cells ≡ 0 → c ≡ held n (starting program input) + main_alone n
    counts_of n c true e q none =
        let one : 1 ≡ c = cc in
        let is = eqb-true main_name n e in
        let a : main_alone n ≡ 1 = ap main_alone (sym is) in
        omega arith
    counts_of n c false e q none = absurd (cc)

    lives_of : (n : ℕ) (b : Bool) → nat_eq n main_name ≡ b → 0 < (if b then 1 else 0)
        → is_some (option_map head_of (object_named (starting program input).store n)) ≡ true
    lives_of n true e p = ap (λ k. is_some (option_map head_of (object_named (starting program input).store k)))
        (eqb-true n main_name e)
    lives_of n false e p = absurd (let z : 0 < 0 = p in omega arith)

    only : (n : ℕ) (head : Head) (b : Bool) → nat_eq main_name n ≡ b
        → option_map head_of (if b then Some (main_object program input) else None) ≡ Some head → n ≢ main_name → ⊥
    only n head true e q no_main = no_main (sym (eqb-true main_name n e))
    only n head false e q no_main = cc

    lives_only : (n : ℕ) (b : Bool) → nat_eq main_name n ≡ b
        → is_some (option_map head_of (if b then Some (main_object program input) else None)) ≡ true → n ≢ main_name → ⊥
    lives_only n true e q no_main = no_main (sym (eqb-true main_name n e))
    lives_only n false e q no_main = cc

-- ---- the main method

-- `main` is in its class, with no parameters
pub record MainThere (program : Source) : Type 0 where
  pub method : Procedure
  pub there : slice_get (class_at program (main_of program).class).methods (main_of program).method ≡ Some method
  pub no_params : method.params ≡ []
  pub class_in : (main_of program).class < length program.classes

pub main_there : (program : Source) → IsAccepted program → MainThere program
main_there program accepted =
    let place = first_of_mains 0 program.classes (mains program) refl (table_rules program accepted.classes).one_main in
    let z : 0 + place.index ≡ place.index = omega arith in
    let y : 0 + place.found.index ≡ place.found.index = omega arith in
    let class_is : class_at program (main_of program).class ≡ place.class =
    ap (λ k. unwrap_or (slice_get program.classes k) no_class) (place.class_is ∙ z)
    ∙ ap (λ o. unwrap_or o no_class) place.there in
    record {
      method = place.found.method;
      there = ap (λ (c : ClassText). slice_get c.methods (main_of program).method) class_is
          ∙ ap (slice_get place.class.methods) (place.found.number_is ∙ y) ∙ place.found.there;
      no_params = params_none place.found.method.params (both_true _ (has_none place.found.method.params)
          place.found.main).1;
      class_in = class_inside program accepted;
    }
  where
    params_none : (vars : List Var) → has_none vars ≡ true → vars ≡ []
    params_none [] h = refl
    params_none (var ∷ vars) h = absurd (cc)

-- the text of `main` is checked, with no variables
pub record MainText (program : Source) : Type 0 where
  pub checked : check_statements (setting_in program (table_of program) (main_of program).class) [] (main_body program)
      ≡ verdict_passed
  pub plain : IsPlain (main_body program)

pub main_text : (program : Source) → IsAccepted program → ProgramIsPlain program → MainText program
main_text program accepted plain =
    let main = main_there program accepted in
    let class = (main_of program).class in
    let rules = setting_in program (table_of program) class in
    let checked = method_checked program accepted class (main_of program).method main.method main.class_in main.there in
    let text : procedure_at program (main_of program) ≡ main.method = ap (λ o. unwrap_or o no_procedure) main.there in
    let body = (both_passed (each_passes_after parameter_new [] main.method.params) _ checked).1 in
    record {
      checked = ap (λ (p : Procedure). check_statements rules [] p.body) text
          ∙ ap (λ vars. check_statements rules (with_parameters rules [] vars) main.method.body) (sym main.no_params)
          ∙ body;
      plain = subst (λ (p : Procedure). IsPlain p.body) (sym text)
          (method_plain program plain class (main_of program).method main.method main.class_in main.there);
    }

-- ---- the end of a run

pub end_sound : (program : Source) (limits : Limits) (input : List FieldWord) (fuel : ℕ) (end : State) (cost : ℕ)
    → IsAccepted program → ProgramIsPlain program → IsLimits limits → IsValid program input
    → source program limits input fuel ≡ Done end cost → Keeps (record { program = program; limits = limits })
    main_alone [] (main_of program).class (starting program input) end
end_sound program limits input fuel end cost accepted plain inside valid e =
    let setting : Setting = record { program = program; limits = limits } in
    let run = exec setting fuel (main_body program) (starting program input) in
    let over = within_done fuel run end cost e in
    let text = main_text program accepted plain in
    let means : MeansSame [] [] = record { same = λ name. refl } in
    ends_done (Keeps setting main_alone [] (main_of program).class (starting program input)) run end cost
    ((exec_keeps setting (knows_classes program accepted plain) fuel).by main_alone [] [] (main_of program).class
    (main_body program) (starting program input) (class_inside program accepted) means text.checked text.plain
    (starting_sound program limits input inside valid))
    over.is

pub no_frame : (frame : List Binding) → map binding_name frame ≡ [] → frame ≡ []
no_frame [] h = refl
no_frame (b ∷ frame) h = absurd (cc)

-- counts are references
pub counts_are_references : (program : Source) (limits : Limits) (input : List FieldWord) (fuel : ℕ) (end : State)
    (cost : ℕ) → IsAccepted program → ProgramIsPlain program → IsLimits limits → IsValid program input
    → source program limits input fuel ≡ Done end cost → CountsReferences end.store
counts_are_references program limits input fuel end cost accepted plain inside valid e =
    let kept = end_sound program limits input fuel end cost accepted plain inside valid e in
    let s = kept.sound in
    let none = no_frame end.frame s.names in
    let framed : (m : ℕ) → holders_among m (map bound_value end.frame) ≡ 0 =
    λ m. ap (λ f. holders_among m (map bound_value f)) none in
    record {
      main = λ o q. let a = s.counts main_name o.count (ap (option_map count_of) q) in let b = s.main_unheld in
          omega arith;
      held = let a = s.main_unheld in omega arith;
      others = λ n o q no_main.
          let a = s.counts n o.count (ap (option_map count_of) q) in
          let b = framed n in
          let c : main_alone n ≡ 0 = ap (λ b. if b then 1 else 0) (other_number n main_name no_main) in
          omega arith;
    }
