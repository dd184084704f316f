-- Statements that hold blocks or write to places keep a state sound if the blocks inside them do.
use Rattle.std.proofs.Common.{◌≡◌, ◌∙◌, sym, ap, subst, ℕ, zero, suc, ◌<◌, Bool, true, false, length, Some}
use Rattle.std.specs.Prelude.{not, ◌&&◌, ◌++◌, if◌then◌else◌}
use Rattle.roopl_semantics.specs.rpp_tree.declared.tree.UpdateOp.{UpdateOp}
use Rattle.roopl_semantics.specs.rpp_tree.Tree.{Expression, Lvalue, Statements, Update, Swap, If, From, Source, nodes}
use Rattle.roopl_semantics.specs.rpp_tree.Tree.{index_nodes}
use Rattle.roopl_semantics.specs.class_rules.declared.kind.Kind.TheVariants as kind
use Rattle.roopl_semantics.specs.class_rules.Table.{table_of}
use Rattle.roopl_semantics.specs.class_rules.Refusal.{type_differs}
use Rattle.roopl_semantics.specs.class_rules.Scope.{Typing, Locals}
use Rattle.roopl_semantics.specs.class_rules.Expressions.{is_int, type_of, place_type}
use Rattle.roopl_semantics.specs.class_rules.Statements.{verdict_passed, required, same_kind, update_rules, swap_rules}
use Rattle.roopl_semantics.specs.class_rules.Statements.{check_statements}
use Rattle.roopl_semantics.specs.class_rules.Program.{setting_in}
use Rattle.roopl_semantics.specs.Operators.{updated}
use Rattle.roopl_semantics.specs.Run.{Run, give}
use Rattle.roopl_semantics.specs.Store.{Word, State, number_of}
use Rattle.roopl_semantics.specs.Value.{read, value as value_in, cell_of}
use Rattle.roopl_semantics.specs.Elements.{SHARED_ARRAY, elements, index_elements, own_element, share_array}
use Rattle.roopl_semantics.specs.Elements.{read_cost}
use Rattle.roopl_semantics.specs.Execution.{Setting, Runner, holds, LOOP, FI, turn_end, turns, statement}
use Rattle.roopl_semantics.specs.Laws.{one_if_name}
use Rattle.meaning_sound.specs.Sound.{is_of_kind, cell_kind, Sound, Keeps}
use Rattle.meaning_sound.specs.Plain.{HasWords, IsPlain}
use Rattle.meaning_sound.proofs.Cells.{typed_of, read_fits}
use Rattle.meaning_sound.proofs.Classes.{KnowsClasses}
use Rattle.meaning_sound.specs.Kept.{MeansSame}
use Rattle.meaning_sound.proofs.Runs.{Ends, ends_then, ends_check, ends_checked, ends_given}
use Rattle.roopl_semantics.proofs.class_rules_laws.PassedRules.{handed_on, both_passed, held, both_true, int_kind}
use Rattle.roopl_semantics.proofs.class_rules_laws.PassedRules.{kinds_same}
use Rattle.meaning_sound.proofs.Values.{int_value, int_number, updated_word, word_fits, value_found, cell_found}
use Rattle.meaning_sound.proofs.Values.{value_fits, place_fits}
use Rattle.meaning_sound.proofs.Writes.{stays_itself, stays_through, write_keeps, swap_keeps}

-- a runner keeps every sound state sound on checked blocks
pub record KeepsAll (setting : Setting) (run : Runner) : Type 0 where
  pub by : (extra : ℕ → ℕ) (locals shape : Locals) (class : ℕ) (body : Statements) (st : State)
      → class < length setting.program.classes → MeansSame locals shape
      → check_statements (setting_in setting.program (table_of setting.program) class) locals body ≡ verdict_passed
      → IsPlain body
      → Sound setting extra shape class st → Ends (Keeps setting extra shape class st) (run body st)

pub keeps_itself : (setting : Setting) (extra : ℕ → ℕ) (shape : Locals) (class : ℕ) (st : State)
    → Sound setting extra shape class st → Keeps setting extra shape class st st
keeps_itself setting extra shape class st s = record { sound = s; stays = stays_itself setting extra st }

pub keeps_through : (setting : Setting) (extra : ℕ → ℕ) (shape : Locals) (class : ℕ) (a b c : State)
    → Keeps setting extra shape class a b → Keeps setting extra shape class b c → Keeps setting extra shape class a c
keeps_through setting extra shape class a b c h k = record
    { sound = k.sound; stays = stays_through setting extra a b c h.stays k.stays }

module _ (setting : Setting) (classes : KnowsClasses setting.program) (run : Runner) (keeps : KeepsAll setting run)
    (extra : ℕ → ℕ) (locals shape : Locals) (class : ℕ) (inside : class < length setting.program.classes)
    (means : MeansSame locals shape) where
  abbrev program : Source
  program = setting.program

  abbrev typing : Typing
  typing = setting_in program (table_of program) class

  abbrev Kept : State → State → Type 0
  Kept st end = Keeps setting extra shape class st end

  pub update_keeps : (n at : ℕ) (op : UpdateOp) (target : Lvalue) (value : Expression) (st : State)
      → update_rules typing locals at target value ≡ verdict_passed → HasWords value
      → Sound setting extra shape class st
      → Ends (Kept st) (statement setting n run (Update at op target value) st)
  update_keeps n at op target value st h words s =
      let t = typed_of setting extra shape class st s in
      let p = handed_on (place_type typing locals target) _ tt h in
      let v = handed_on (type_of typing locals value) _ tt p.goes in
      let rules = both_passed (required (is_int p.value && is_int v.value) (type_differs at)) _ v.goes in
      let ints = both_true (is_int p.value) (is_int v.value) (held _ _ rules.0) in
      ends_given (Kept st) (index_nodes target) (cell_of program st target) _ (λ cell e.
      ends_given (Kept st) (nodes value) (value_in program st value) _ (λ x f.
      let place : cell_kind program shape st.store cell ≡ Some kind.Int =
      cell_found program shape st.store p.value (cell_of program st target) cell
      (place_fits setting classes extra locals shape class inside means st target p.value t p.is) e
      ∙ ap (λ z. Some z) (int_kind p.value ints.0) in
      let fit : is_of_kind program st.store x kind.Int ≡ true = subst (λ z. is_of_kind program st.store x z ≡ true)
      (int_kind v.value ints.1) (value_found program st.store v.value (value_in program st value) x
      (value_fits setting classes extra locals shape class inside means st value v.value t words v.is) f) in
      let old = read_fits setting extra shape class st cell kind.Int t place in
      let was = int_value program st.store (read st cell) old in
      let w = updated op (number_of (read st cell)) (number_of x) in
      let changed = own_element target in
      let reads = index_elements target ++ elements value in
      ends_checked (Kept st) (read_cost changed reads) SHARED_ARRAY (share_array program st changed reads)
      (λ u. give (Rattle.roopl_semantics.specs.Value.written st cell (Word w))) (λ q.
      write_keeps setting extra shape class st cell kind.Int (Word w) s place
      (word_fits program st.store w (updated_word op (number_of (read st cell)) (number_of x)
      (int_number program st.store (read st cell) old) (int_number program st.store x fit)))
      (λ m. sym (ap (one_if_name m) was.is)))))

  pub swap_keeps_all : (n at : ℕ) (left right : Lvalue) (st : State)
      → swap_rules typing locals at left right ≡ verdict_passed
      → Sound setting extra shape class st → Ends (Kept st) (statement setting n run (Swap at left right) st)
  swap_keeps_all n at left right st h s =
      let t = typed_of setting extra shape class st s in
      let l = handed_on (place_type typing locals left) _ tt h in
      let r = handed_on (place_type typing locals right) _ tt l.goes in
      let rules = both_passed (required (same_kind l.value r.value) (type_differs at)) _ r.goes in
      let same = kinds_same l.value r.value (held _ _ rules.0) in
      ends_given (Kept st) (index_nodes left) (cell_of program st left) _ (λ a e.
      ends_given (Kept st) (index_nodes right) (cell_of program st right) _ (λ b f.
      let changed = own_element left ++ own_element right in
      let reads = index_elements left ++ index_elements right in
      let ends : Unit {0} → Run State = λ u. give (Rattle.roopl_semantics.specs.Value.written
      (Rattle.roopl_semantics.specs.Value.written st a (read st b)) b (read st a)) in
      ends_checked (Kept st) (read_cost changed reads) SHARED_ARRAY (share_array program st changed reads) ends
      (λ q.
      swap_keeps setting extra shape class st a b l.value s
      (cell_found program shape st.store l.value (cell_of program st left) a
      (place_fits setting classes extra locals shape class inside means st left l.value t l.is) e)
      (cell_found program shape st.store r.value (cell_of program st right) b
      (place_fits setting classes extra locals shape class inside means st right r.value t r.is) f
      ∙ ap (λ z. Some z) (sym same)))))

  chosen_checks : (b : Bool) (taken other : Statements) → check_statements typing locals taken ≡ verdict_passed
      → check_statements typing locals other ≡ verdict_passed
      → check_statements typing locals (if b then taken else other)
      ≡ verdict_passed
  chosen_checks true taken other h k = h
  chosen_checks false taken other h k = k

  chosen_plain : (b : Bool) (taken other : Statements) → IsPlain taken → IsPlain other
      → IsPlain (if b then taken else other)
  chosen_plain true taken other h k = h
  chosen_plain false taken other h k = k

  pub if_keeps : (n at : ℕ) (test : Expression) (taken other : Statements) (after : Expression) (st : State)
      → check_statements typing locals taken ≡ verdict_passed → check_statements typing locals other ≡ verdict_passed
      → IsPlain taken
      → IsPlain other
      → Sound setting extra shape class st → Ends (Kept st) (statement setting n run (If at test taken other after) st)
  if_keeps n at test taken other after st ht ho pt po s =
      ends_given (Kept st) (nodes test) (value_in program st test) _ (λ v e.
      ends_then (Kept st) (Kept st) (run (if holds v then taken else other) st) _
      (keeps.by extra locals shape class (if holds v then taken else other) st inside means
      (chosen_checks (holds v) taken other ht ho) (chosen_plain (holds v) taken other pt po) s)
      (λ end k. ends_given (Kept st) (nodes after) (value_in program end after) _
      (λ w f. ends_check (Kept st) FI (if holds v then not (holds w) else holds w) (λ x. give end)
      (λ q. k))))

  turn_end_keeps : (entry : Expression) (again : Statements) (next : State → Run State) (start : State)
      → check_statements typing locals again ≡ verdict_passed → IsPlain again
      → ((st : State) → Kept start st → Ends (Kept start) (next st)) → (exits : Bool) (st : State) → Kept start st
      → Ends (Kept start) (turn_end setting run entry again next exits st)
  turn_end_keeps entry again next start h p rest true st k = k
  turn_end_keeps entry again next start h p rest false st k =
      ends_then (Kept st) (Kept start) (run again st) _ (keeps.by extra locals shape class again st inside means h p
      k.sound)
      (λ end e. ends_given (Kept start) (nodes entry) (value_in program end entry) _
      (λ v f. ends_check (Kept start) LOOP (holds v) (λ x. next end)
      (λ q. rest end (keeps_through setting extra shape class start st end k e))))

  turns_keep : (n : ℕ) (entry : Expression) (first again : Statements) (exit : Expression) (start : State)
      → check_statements typing locals first ≡ verdict_passed → check_statements typing locals again ≡ verdict_passed
      → IsPlain first
      → IsPlain again → (st : State) → Kept start st → Ends (Kept start) (turns setting n run entry first again exit st)
  turns_keep zero entry first again exit start hf ha pf pa st k = tt
  turns_keep (suc n) entry first again exit start hf ha pf pa st k =
      ends_then (Kept st) (Kept start) (run first st) _ (keeps.by extra locals shape class first st inside means hf pf
      k.sound)
      (λ end e. ends_given (Kept start) (nodes exit) (value_in program end exit) _ (λ v f.
      turn_end_keeps entry again (turns setting n run entry first again exit) start ha pa
      (turns_keep n entry first again exit start hf ha pf pa) (holds v) end
      (keeps_through setting extra shape class start st end k e)))

  pub from_keeps : (n at : ℕ) (entry : Expression) (first again : Statements) (exit : Expression) (st : State)
      → check_statements typing locals first ≡ verdict_passed → check_statements typing locals again ≡ verdict_passed
      → IsPlain first
      → IsPlain again
      → Sound setting extra shape class st → Ends (Kept st)
      (statement setting n run (From at entry first again exit) st)
  from_keeps n at entry first again exit st hf ha pf pa s =
      ends_given (Kept st) (nodes entry) (value_in program st entry) _
      (λ v e. ends_check (Kept st) LOOP (not (holds v)) (λ x. turns setting n run entry first again exit st)
      (λ q.
      turns_keep n entry first again exit st hf ha pf pa st (keeps_itself setting extra shape class st s)))
