-- Execution of a checked block keeps every sound state sound.
use Rattle.std.proofs.Common.{◌≡◌, ℕ, zero, suc, ◌<◌, length, Some, None}
use Rattle.roopl_semantics.specs.rpp_tree.Tree.{Object as AnObject, Ints, Objects, Whole, Item, Statement, Statements, Update, Swap, If}
use Rattle.roopl_semantics.specs.rpp_tree.Tree.{From, Construct, Local, New, Delete, Copy, Uncopy, Call, Skip, End, Then}
use Rattle.roopl_semantics.specs.class_rules.Table.{table_of}
use Rattle.roopl_semantics.specs.class_rules.Scope.{Typing, Locals, kind_of}
use Rattle.roopl_semantics.specs.class_rules.Statements.{verdict_passed, in_turn, test_rules, local_rules, construct_rules, with_local}
use Rattle.roopl_semantics.specs.class_rules.Statements.{with_object, check_statement, check_statements}
use Rattle.roopl_semantics.specs.class_rules.Program.{setting_in}
use Rattle.roopl_semantics.specs.Store.{State}
use Rattle.roopl_semantics.specs.Execution.{Setting, Runner, statement, exec}
use Rattle.meaning_sound.specs.Sound.{Sound, Keeps}
use Rattle.meaning_sound.specs.Plain.{StatementIsPlain, IsPlain}
use Rattle.meaning_sound.proofs.Classes.{KnowsClasses}
use Rattle.meaning_sound.specs.Kept.{MeansSame}
use Rattle.meaning_sound.proofs.Runs.{Ends, ends_after, ends_then, ends_more}
use Rattle.roopl_semantics.proofs.class_rules_laws.PassedRules.{both_passed}
use Rattle.meaning_sound.proofs.Blocks.{KeepsAll, keeps_itself, keeps_through, update_keeps, swap_keeps_all, if_keeps}
use Rattle.meaning_sound.proofs.Blocks.{from_keeps}
use Rattle.meaning_sound.proofs.Locals.{local_parts, with_local_keeps}
use Rattle.meaning_sound.proofs.Makes.{new_object_keeps, new_ints_keeps, new_objects_keeps, delete_object_keeps}
use Rattle.meaning_sound.proofs.Makes.{delete_ints_keeps, delete_objects_keeps, copy_keeps_all, uncopy_keeps_all}
use Rattle.meaning_sound.proofs.Calls.{call_self_keeps, call_object_keeps}
use Rattle.meaning_sound.proofs.Expansions.{construct_keeps, call_element_keeps}

module _ (setting : Setting) (classes : KnowsClasses setting.program) (run : Runner) (keeps : KeepsAll setting run)
    (extra : ℕ → ℕ) (locals shape : Locals) (class : ℕ) (inside : class < length setting.program.classes)
    (means : MeansSame locals shape) where
  abbrev typing : Typing
  typing = setting_in setting.program (table_of setting.program) class

  pub statement_keeps : (n : ℕ) (s : Statement) (st : State) → check_statement typing locals s ≡ verdict_passed
      → StatementIsPlain s → Sound setting extra shape class st
      → Ends (Keeps setting extra shape class st) (statement setting n run s st)
  statement_keeps n (Update at op target value) st h p s =
      update_keeps setting classes run keeps extra locals shape class inside means n at op target value st h p.1 s
  statement_keeps n (Swap at left right) st h p s = swap_keeps_all setting classes run keeps extra locals shape class
      inside means n at left right st h s
  statement_keeps n (If at test taken other after) st h p s =
      let a = both_passed (test_rules typing locals test after)
      (in_turn (check_statements typing locals taken) (check_statements typing locals other)) h in
      let b = both_passed (check_statements typing locals taken) (check_statements typing locals other) a.1 in
      if_keeps setting classes run keeps extra locals shape class inside means n at test taken other after st b.0 b.1
      p.1 p.2 s
  statement_keeps n (From at entry first again exit) st h p s =
      let a = both_passed (test_rules typing locals entry exit)
      (in_turn (check_statements typing locals first) (check_statements typing locals again)) h in
      let b = both_passed (check_statements typing locals first) (check_statements typing locals again) a.1 in
      from_keeps setting classes run keeps extra locals shape class inside means n at entry first again exit st b.0 b.1
      p.1 p.2 s
  statement_keeps n (Construct at of_class name body end) st h p s =
      let a = both_passed (construct_rules typing locals of_class name end)
      (check_statements typing (with_object typing locals of_class name) body) h in
      construct_keeps setting classes run keeps extra locals shape class inside means n at of_class name body end st a.0
      a.1 p s
  statement_keeps n (Local at var value body end_var end_value) st h p s =
      let a = both_passed (local_rules typing locals at var value end_var end_value)
      (check_statements typing (with_local typing locals var) body) h in
      let l = local_parts typing locals at var value end_var end_value a.0 p.0 p.2 in
      with_local_keeps setting classes run keeps extra locals shape class inside means var.name.text
      (kind_of typing.table var.kind) value body end_value st l.first l.last a.1 p.1 s
  statement_keeps n (New at (AnObject name) target) st h p s =
      new_object_keeps setting classes run extra locals shape class inside means n at name target st h s
  statement_keeps n (New at (Ints size) target) st h p s =
      new_ints_keeps setting classes run extra locals shape class inside means n at size target st h s
  statement_keeps n (New at (Objects name size) target) st h p s =
      new_objects_keeps setting classes run extra locals shape class inside means n at name size target st h s
  statement_keeps n (Delete at (AnObject name) target) st h p s =
      delete_object_keeps setting classes run extra locals shape class inside means n at name target st h s
  statement_keeps n (Delete at (Ints size) target) st h p s =
      delete_ints_keeps setting classes run extra locals shape class inside means n at size target st h s
  statement_keeps n (Delete at (Objects name size) target) st h p s =
      delete_objects_keeps setting classes run extra locals shape class inside means n at name size target st h s
  statement_keeps n (Copy at written source target) st h p s =
      copy_keeps_all setting classes run extra locals shape class inside means n at written source target st h s
  statement_keeps n (Uncopy at written source target) st h p s =
      uncopy_keeps_all setting classes run extra locals shape class inside means n at written source target st h s
  statement_keeps n (Call at back None method args) st h p s =
      call_self_keeps setting classes run keeps extra locals shape class inside means n at back method args st h s
  statement_keeps n (Call at back (Some (Whole name)) method args) st h p s =
      call_object_keeps setting classes run keeps extra locals shape class inside means n at back name method args st h
      s
  statement_keeps n (Call at back (Some (Item name index)) method args) st h p s =
      call_element_keeps setting classes run keeps extra locals shape class inside means n at back name index method
      args st h p.0 p.1 p.2 p.3 s
  statement_keeps n (Skip at) st h p s = keeps_itself setting extra shape class st s

pub exec_keeps : (setting : Setting) → KnowsClasses setting.program → (n : ℕ) → KeepsAll setting (exec setting n)
exec_keeps setting classes zero = record { by = by }
  where
    by : (extra : ℕ → ℕ) (locals shape : Locals) (class : ℕ) (body : Statements) (st : State)
        → class < length setting.program.classes → MeansSame locals shape
        → check_statements (setting_in setting.program (table_of setting.program) class) locals body ≡ verdict_passed
        → IsPlain body → Sound setting extra shape class st
        → Ends (Keeps setting extra shape class st) (exec setting zero body st)
    by extra locals shape class End st inside means h p s = keeps_itself setting extra shape class st s
    by extra locals shape class (Then first rest) st inside means h p s = tt
exec_keeps setting classes (suc n) = record { by = by (exec_keeps setting classes n) }
  where
    by : KeepsAll setting (exec setting n) → (extra : ℕ → ℕ) (locals shape : Locals) (class : ℕ) (body : Statements)
        (st : State) → class < length setting.program.classes → MeansSame locals shape
        → check_statements (setting_in setting.program (table_of setting.program) class) locals body ≡ verdict_passed
        → IsPlain body → Sound setting extra shape class st
        → Ends (Keeps setting extra shape class st) (exec setting (suc n) body st)
    by keeps extra locals shape class End st inside means h p s = keeps_itself setting extra shape class st s
    by keeps extra locals shape class (Then first rest) st inside means h p s =
        let typing = setting_in setting.program (table_of setting.program) class in
        let both = both_passed (check_statement typing locals first) (check_statements typing locals rest) h in
        ends_after (Keeps setting extra shape class st) 1 _
        (ends_then (Keeps setting extra shape class st) (Keeps setting extra shape class st)
        (statement setting n (exec setting n) first st) (λ st'. exec setting n rest st')
        (statement_keeps setting classes (exec setting n) keeps extra locals shape class inside means n first st both.0
        p.0 s)
        (λ st' k. ends_more (Keeps setting extra shape class st') (Keeps setting extra shape class st)
        (exec setting n rest st') (λ end e. keeps_through setting extra shape class st st' end k e)
        (keeps.by extra locals shape class rest st' inside means both.1 p.1 k.sound)))
