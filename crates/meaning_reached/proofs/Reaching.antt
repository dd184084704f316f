-- Execution of a checked block keeps every live object reached.
use Rattle.std.proofs.Common.{◌≡◌, ◌∙◌, ap, refl, ℕ, zero, suc, ◌<◌, Bool, [], ◌∷◌, List, length, Some, None}
use Rattle.std.specs.Prelude.{not, ◌||◌, Ok}
use Rattle.meaning_sound.specs.rpp_tree.declared.tree.Ident.{Ident}
use Rattle.meaning_sound.specs.rpp_tree.Tree.{Expression, Null, Element, Object as AnObject, Ints, Objects, Whole, Item, Statement}
use Rattle.meaning_sound.specs.rpp_tree.Tree.{Statements, Update, Swap, If, From, Construct, Local, New, Delete, Copy, Uncopy, Call}
use Rattle.meaning_sound.specs.rpp_tree.Tree.{Skip, End, Then, joined, Source}
use Rattle.meaning_sound.specs.class_rules.declared.kind.Kind.{Kind}
use Rattle.meaning_sound.specs.class_rules.declared.kind.Kind.TheVariants as kind
use Rattle.meaning_sound.specs.class_rules.Table.{table_of, class_of, slot_in}
use Rattle.meaning_sound.specs.class_rules.Refusal.{type_differs, self_update}
use Rattle.meaning_sound.specs.class_rules.Scope.{Typing, Local as ALocal, Locals, kind_of, class_kind}
use Rattle.meaning_sound.specs.class_rules.Expressions.{then_checked, occurs, place_type}
use Rattle.meaning_sound.specs.class_rules.Statements.{Verdict, verdict_passed, required, in_turn, receiver_kind, place_class, same_kind}
use Rattle.meaning_sound.specs.class_rules.Statements.{in_either_index, swap_rules, class_known, construct_rules, call_rules}
use Rattle.meaning_sound.specs.class_rules.Statements.{receiver_class, slot_rules, test_rules, local_rules, with_local, with_object}
use Rattle.meaning_sound.specs.class_rules.Statements.{check_statement, check_statements}
use Rattle.meaning_sound.specs.class_rules.Program.{setting_in}
use Rattle.meaning_sound.specs.roopl_semantics.Store.{State}
use Rattle.meaning_sound.specs.roopl_semantics.Execution.{Setting, Runner, element_name, constructed, element_call, statement, exec}
use Rattle.meaning_sound.specs.Sound.{Sound, Keeps}
use Rattle.meaning_sound.specs.Plain.{HasWords, IsNamed, HasNames, AreNamed, StatementIsPlain, IsPlain}
use Rattle.meaning_sound.specs.Kept.{MeansSame}
use Rattle.meaning_sound.proofs.Classes.{KnowsClasses}
use Rattle.meaning_sound.proofs.Runs.{Ends, ends_after, ends_then}
use Rattle.meaning_sound.proofs.class_rules_laws.PassedRules.{both_passed, in_turn_passes, required_passes, hands_on, same_as_itself}
use Rattle.meaning_sound.proofs.Blocks.{KeepsAll}
use Rattle.meaning_sound.proofs.Locals.{local_parts, nil_end, no_int_class, type_of_under}
use Rattle.meaning_sound.proofs.Undone.{check_joined, plain_joined}
use Rattle.meaning_sound.proofs.Calls.{receiver_parts}
use Rattle.meaning_sound.proofs.Expansions.{innermost, made_in, not_in, slots_under}
use Rattle.meaning_sound.proofs.Keeping.{statement_keeps, exec_keeps}
use Rattle.meaning_reached.specs.Reached.{Reaches}
use Rattle.meaning_reached.proofs.Callings.{ReachesAll, ends_both}
use Rattle.meaning_reached.proofs.Wiring.{update_reached, swap_reached, if_reached, from_reached, with_local_reached}
use Rattle.meaning_reached.proofs.Wiring.{new_object_reached, new_ints_reached, new_objects_reached}
use Rattle.meaning_reached.proofs.Wiring.{delete_object_reached, delete_ints_reached, delete_objects_reached}
use Rattle.meaning_reached.proofs.Wiring.{copy_reached, uncopy_reached, call_self_reached, call_object_reached}

module _ (setting : Setting) (classes : KnowsClasses setting.program) (run : Runner) (keeps : KeepsAll setting run)
    (reaches : ReachesAll setting run) (extra : ℕ → ℕ) (locals shape : Locals) (class : ℕ)
    (inside : class < length setting.program.classes) (means : MeansSame locals shape) where
  abbrev program : Source
  program = setting.program

  abbrev typing : Typing
  typing = setting_in setting.program (table_of setting.program) class

  abbrev IsSound : State → Type 0
  IsSound st = Sound setting extra shape class st

  construct_reached : (n at : ℕ) (of_class name : Ident) (body : Statements) (end : Ident) (st : State)
      → construct_rules typing locals of_class name end ≡ verdict_passed
      → check_statements typing (with_object typing locals of_class name) body ≡ verdict_passed → IsPlain body
      → IsSound st → Reaches extra st → Ends (Reaches extra)
      (statement setting n run (Construct at of_class name body end) st)
  construct_reached n at of_class name body end st h checked plain s r =
      let a = both_passed (class_known typing.table of_class) _ h in
      let k = class_kind (class_of typing.table of_class.text) in
      let inner = with_object typing locals of_class name in
      let made = made_in typing locals at of_class name a.0 in
      let first = New at (AnObject of_class) (Whole name) in
      let last = Then (Delete at (AnObject of_class) (Whole name)) End in
      with_local_reached setting classes run keeps reaches extra locals shape class inside means name.text k (Null at)
      (constructed at of_class name body) (Null at) st
      (nil_end at (no_int_class (class_of typing.table of_class.text)))
      (nil_end at (no_int_class (class_of typing.table of_class.text)))
      (in_turn_passes (check_statement typing inner first) (check_statements typing inner (joined body last)) made
      (check_joined typing inner body last checked (in_turn_passes
      (check_statement typing inner (Delete at (AnObject of_class) (Whole name))) verdict_passed made refl)))
      ((tt, tt), plain_joined body last plain ((tt, tt), tt)) s r

  call_element_reached : (n at : ℕ) (back : Bool) (name : Ident) (index : Expression) (method : Ident)
      (args : List Ident) (st : State) → call_rules typing locals at (Some (Item name index)) method args ≡ verdict_passed
      → HasWords index → IsNamed name → HasNames index → AreNamed args
      → IsSound st → Reaches extra st → Ends (Reaches extra)
      (statement setting n run (Call at back (Some (Item name index)) method args) st)
  call_element_reached n at back name index method args st h words named indexes all s z =
      let r = receiver_parts setting classes run keeps extra locals shape class inside means at (Item name index) method
      args h in
      let k = kind.Class r.static in
      let l : ALocal = record { name = []; kind = k } in
      let inner : Locals = l ∷ locals in
      let e = element_name at in
      let exchange = Swap at (Whole e) (Item name index) in
      let call = Call at back (Some (Whole e)) method args in
      let receiver : place_type typing inner (Whole e) ≡ Ok k = innermost typing locals e k in
      let element : place_type typing inner (Item name index) ≡ Ok k =
      type_of_under typing l locals (Element name index)
      (not_in setting classes run keeps extra locals shape class inside means (Element name index) (named, indexes))
      ∙ r.is in
      let swap_rest : Kind → Kind → Verdict = λ a b. in_turn (required (same_kind a b) (type_differs at))
      (required (not (in_either_index [] (Whole e) (Item name index) || in_either_index name.text (Whole e)
      (Item name index))) (self_update at)) in
      let swapped : swap_rules typing inner at (Whole e) (Item name index) ≡ verdict_passed =
      hands_on (place_type typing inner (Whole e)) (λ a. then_checked (place_type typing inner (Item name index))
      (λ b. swap_rest a b)) k verdict_passed receiver (hands_on (place_type typing inner (Item name index))
      (λ b. swap_rest k b) k verdict_passed element
      (in_turn_passes (required (same_kind k k) (type_differs at)) _
      (required_passes _ (type_differs at) (same_as_itself k))
      (required_passes _ (self_update at) (ap (λ b. not (b || occurs name.text index))
      (not_in setting classes run keeps extra locals shape class inside means index indexes)
      ∙ ap not r.apart)))) in
      let called : call_rules typing inner at (Some (Whole e)) method args ≡ verdict_passed =
      hands_on (receiver_class typing inner (Some (Whole e)))
      (λ c. slot_rules typing inner at (Some (Whole e)) method args c (slot_in typing.table c method.text)) r.static
      verdict_passed
      (hands_on (place_type typing inner (Whole e)) (λ x. then_checked (receiver_kind at x) (place_class at (Whole e))) k
      (Ok r.static) receiver refl)
      (slots_under setting classes run keeps extra locals shape class inside means at k name index method args r.static
      all (slot_in typing.table r.static method.text) r.rules) in
      with_local_reached setting classes run keeps reaches extra locals shape class inside means [] k (Null at)
      (element_call at back name index method args) (Null at) st
      (nil_end at refl) (nil_end at refl)
      (in_turn_passes (check_statement typing inner exchange)
      (check_statements typing inner (Then call (Then exchange End))) swapped
      (in_turn_passes (check_statement typing inner call) (check_statements typing inner (Then exchange End)) called
      (in_turn_passes (check_statement typing inner exchange) verdict_passed swapped refl)))
      ((tt, words), (tt, ((tt, words), tt))) s z

  pub statement_reaches : (n : ℕ) (s : Statement) (st : State) → check_statement typing locals s ≡ verdict_passed
      → StatementIsPlain s → IsSound st → Reaches extra st → Ends (Reaches extra) (statement setting n run s st)
  statement_reaches n (Update at op target value) st h p s r =
      update_reached setting classes run keeps reaches extra locals shape class inside means n at op target value st h s
      r
  statement_reaches n (Swap at left right) st h p s r = swap_reached setting classes run keeps reaches extra locals
      shape class inside means n at left right st h s r
  statement_reaches n (If at test taken other after) st h p s r =
      let a = both_passed (test_rules typing locals test after)
      (in_turn (check_statements typing locals taken) (check_statements typing locals other)) h in
      let b = both_passed (check_statements typing locals taken) (check_statements typing locals other) a.1 in
      if_reached setting classes run keeps reaches extra locals shape class inside means n at test taken other after st
      b.0 b.1 p.1 p.2 s r
  statement_reaches n (From at entry first again exit) st h p s r =
      let a = both_passed (test_rules typing locals entry exit)
      (in_turn (check_statements typing locals first) (check_statements typing locals again)) h in
      let b = both_passed (check_statements typing locals first) (check_statements typing locals again) a.1 in
      from_reached setting classes run keeps reaches extra locals shape class inside means n at entry first again exit
      st b.0 b.1 p.1 p.2 s r
  statement_reaches n (Construct at of_class name body end) st h p s r =
      let a = both_passed (construct_rules typing locals of_class name end)
      (check_statements typing (with_object typing locals of_class name) body) h in
      construct_reached n at of_class name body end st a.0 a.1 p s r
  statement_reaches n (Local at var value body end_var end_value) st h p s r =
      let a = both_passed (local_rules typing locals at var value end_var end_value)
      (check_statements typing (with_local typing locals var) body) h in
      let l = local_parts typing locals at var value end_var end_value a.0 p.0 p.2 in
      with_local_reached setting classes run keeps reaches extra locals shape class inside means var.name.text
      (kind_of typing.table var.kind) value body end_value st l.first l.last a.1 p.1 s r
  statement_reaches n (New at (AnObject name) target) st h p s r =
      new_object_reached setting classes run keeps reaches extra locals shape class inside means n at name target st h s
      r
  statement_reaches n (New at (Ints size) target) st h p s r =
      new_ints_reached setting classes run keeps reaches extra locals shape class inside means n at size target st h s r
  statement_reaches n (New at (Objects name size) target) st h p s r =
      new_objects_reached setting classes run keeps reaches extra locals shape class inside means n at name size target
      st h s r
  statement_reaches n (Delete at (AnObject name) target) st h p s r =
      delete_object_reached setting classes run keeps reaches extra locals shape class inside means n at name target st
      h s r
  statement_reaches n (Delete at (Ints size) target) st h p s r =
      delete_ints_reached setting classes run keeps reaches extra locals shape class inside means n at size target st h
      s r
  statement_reaches n (Delete at (Objects name size) target) st h p s r =
      delete_objects_reached setting classes run keeps reaches extra locals shape class inside means n at name size
      target st h s r
  statement_reaches n (Copy at of_type source target) st h p s r =
      copy_reached setting classes run keeps reaches extra locals shape class inside means n at of_type source target st
      r
  statement_reaches n (Uncopy at of_type source target) st h p s r =
      uncopy_reached setting classes run keeps reaches extra locals shape class inside means n at of_type source target
      st h s r
  statement_reaches n (Call at back None method args) st h p s r =
      call_self_reached setting classes run keeps reaches extra locals shape class inside means n at back method args st
      h s r
  statement_reaches n (Call at back (Some (Whole name)) method args) st h p s r =
      call_object_reached setting classes run keeps reaches extra locals shape class inside means n at back name method
      args st h s r
  statement_reaches n (Call at back (Some (Item name index)) method args) st h p s r =
      call_element_reached n at back name index method args st h p.0 p.1 p.2 p.3 s r
  statement_reaches n (Skip at) st h p s r = r

pub exec_reaches : (setting : Setting) → KnowsClasses setting.program → (n : ℕ) → ReachesAll setting (exec setting n)
exec_reaches setting classes zero = record { by = by }
  where
    by : (extra : ℕ → ℕ) (locals shape : Locals) (class : ℕ) (body : Statements) (st : State)
        → class < length setting.program.classes → MeansSame locals shape
        → check_statements (setting_in setting.program (table_of setting.program) class) locals body ≡ verdict_passed
        → IsPlain body → Sound setting extra shape class st → Reaches extra st
        → Ends (Reaches extra) (exec setting zero body st)
    by extra locals shape class End st inside means h p s r = r
    by extra locals shape class (Then first rest) st inside means h p s r = tt
exec_reaches setting classes (suc n) = record {
  by = by (exec_keeps setting classes n) (exec_reaches setting classes n);
}
  where
    by : KeepsAll setting (exec setting n) → ReachesAll setting (exec setting n)
        → (extra : ℕ → ℕ) (locals shape : Locals) (class : ℕ) (body : Statements) (st : State)
        → class < length setting.program.classes → MeansSame locals shape
        → check_statements (setting_in setting.program (table_of setting.program) class) locals body ≡ verdict_passed
        → IsPlain body → Sound setting extra shape class st → Reaches extra st
        → Ends (Reaches extra) (exec setting (suc n) body st)
    by keeps reaches extra locals shape class End st inside means h p s r = r
    by keeps reaches extra locals shape class (Then first rest) st inside means h p s r =
        let typing = setting_in setting.program (table_of setting.program) class in
        let both = both_passed (check_statement typing locals first) (check_statements typing locals rest) h in
        ends_after (Reaches extra) 1 _
        (ends_then (λ end. Keeps setting extra shape class st end × Reaches extra end) (Reaches extra)
        (statement setting n (exec setting n) first st) (λ st'. exec setting n rest st')
        (ends_both (Keeps setting extra shape class st) (Reaches extra) (statement setting n (exec setting n) first st)
        (statement_keeps setting classes (exec setting n) keeps extra locals shape class inside means n first st both.0
        p.0 s)
        (statement_reaches setting classes (exec setting n) keeps reaches extra locals shape class inside means n first
        st both.0 p.0 s r))
        (λ st' k. reaches.by extra locals shape class rest st' inside means both.1 p.1 k.0.sound k.1))
