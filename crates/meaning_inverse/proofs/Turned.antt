-- A block with its calls turned: what inverts with calls turned is the turned inverse of what
-- inverts with calls as they are.
use Rattle.std.proofs.Common.{◌≡◌, refl, sym, ap, ◌∙◌, true, false, not}
use Rattle.meaning_reached.specs.rpp_tree.Tree.{Statement, Statements, Update, Swap, If, From, Construct, Local, New, Delete, Copy}
use Rattle.meaning_reached.specs.rpp_tree.Tree.{Uncopy, Call, Skip, End, Then, joined}
use Rattle.meaning_reached.specs.class_rules.Scope.{Typing, Locals}
use Rattle.meaning_reached.specs.class_rules.Statements.{in_turn, test_rules, local_rules, construct_rules, with_local, with_object}
use Rattle.meaning_reached.specs.class_rules.Statements.{check_statement, check_statements}
use Rattle.meaning_reached.specs.inverse_rules.Inverse.{inverse_statement_as, inverse_as, inverse}
use Rattle.meaning_reached.proofs.inverse_rules_laws.Inverses.{inverse-twice}
use Rattle.meaning_reached.proofs.pisa_isa_laws.Back.{not-not}

abbrev mutual
  -- a statement whose calls go the other way
  pub turned_statement : Statement → Statement
  turned_statement (Update at op target value) = Update at op target value
  turned_statement (Swap at left right) = Swap at left right
  turned_statement (If at test taken other after) = If at test (turned taken) (turned other) after
  turned_statement (From at entry first again exit) = From at entry (turned first) (turned again) exit
  turned_statement (Construct at class name body end) = Construct at class name (turned body) end
  turned_statement (Local at var value body end_var end_value) = Local at var value (turned body) end_var end_value
  turned_statement (New at made target) = New at made target
  turned_statement (Delete at made target) = Delete at made target
  turned_statement (Copy at kind source target) = Copy at kind source target
  turned_statement (Uncopy at kind source target) = Uncopy at kind source target
  turned_statement (Call at back receiver method args) = Call at (not back) receiver method args
  turned_statement (Skip at) = Skip at

  pub turned : Statements → Statements
  turned End = End
  turned (Then first rest) = Then (turned_statement first) (turned rest)

pub turned_joined : (a b : Statements) → turned (joined a b) ≡ joined (turned a) (turned b)
turned_joined End b = refl
turned_joined (Then s a) b = ap (Then (turned_statement s)) (turned_joined a b)

mutual
  statement_turned_inverse : (s : Statement) → turned_statement (inverse_statement_as false s)
      ≡ inverse_statement_as true s
  statement_turned_inverse (Update at op target value) = refl
  statement_turned_inverse (If at test taken other after) =
      ap (λ b. If at after b (turned (inverse_as false other)) test) (turned_inverse taken)
      ∙ ap (λ b. If at after (inverse_as true taken) b test) (turned_inverse other)
  statement_turned_inverse (From at entry first again exit) =
      ap (λ b. From at exit b (turned (inverse_as false again)) entry) (turned_inverse first)
      ∙ ap (λ b. From at exit (inverse_as true first) b entry) (turned_inverse again)
  statement_turned_inverse (Construct at class name body end) =
      ap (λ b. Construct at class name b end) (turned_inverse body)
  statement_turned_inverse (Local at var value body end_var end_value) =
      ap (λ b. Local at end_var end_value b var value) (turned_inverse body)
  statement_turned_inverse _ = refl

  pub turned_inverse : (b : Statements) → turned (inverse_as false b) ≡ inverse b
  turned_inverse End = refl
  turned_inverse (Then s b) =
      turned_joined (inverse_as false b) (Then (inverse_statement_as false s) End)
      ∙ ap (λ c. joined c (Then (turned_statement (inverse_statement_as false s)) End)) (turned_inverse b)
      ∙ ap (λ x. joined (inverse_as true b) (Then x End)) (statement_turned_inverse s)

-- the inverse of a method of the inverse program
pub inverse_of_inverse : (b : Statements) → inverse (inverse_as false b) ≡ turned b
inverse_of_inverse b = sym (turned_inverse (inverse_as false b)) ∙ ap turned (inverse-twice false b)

mutual
  statement_turned_twice : (s : Statement) → turned_statement (turned_statement s) ≡ s
  statement_turned_twice (Update at op target value) = refl
  statement_turned_twice (If at test taken other after) =
      ap (λ b. If at test b (turned (turned other)) after) (turned_twice taken)
      ∙ ap (λ b. If at test taken b after) (turned_twice other)
  statement_turned_twice (From at entry first again exit) =
      ap (λ b. From at entry b (turned (turned again)) exit) (turned_twice first)
      ∙ ap (λ b. From at entry first b exit) (turned_twice again)
  statement_turned_twice (Construct at class name body end) =
      ap (λ b. Construct at class name b end) (turned_twice body)
  statement_turned_twice (Local at var value body end_var end_value) =
      ap (λ b. Local at var value b end_var end_value) (turned_twice body)
  statement_turned_twice (Call at back receiver method args) = ap (λ b. Call at b receiver method args) (not-not back)
  statement_turned_twice _ = refl

  pub turned_twice : (b : Statements) → turned (turned b) ≡ b
  turned_twice End = refl
  turned_twice (Then s b) = ap (λ x. Then x (turned (turned b))) (statement_turned_twice s)
      ∙ ap (Then s) (turned_twice b)

-- ---- the rules do not see the direction of a call

module _ (setting : Typing) where
  mutual
    statement_checks_turned : (locals : Locals) (s : Statement)
        → check_statement setting locals (turned_statement s) ≡ check_statement setting locals s
    statement_checks_turned locals (Update at op target value) = refl
    statement_checks_turned locals (If at test taken other after) =
        ap (λ r. in_turn (test_rules setting locals test after)
        (in_turn r (check_statements setting locals (turned other)))) (checks_turned locals taken)
        ∙ ap (λ r. in_turn (test_rules setting locals test after) (in_turn (check_statements setting locals taken) r))
        (checks_turned locals other)
    statement_checks_turned locals (From at entry first again exit) =
        ap (λ r. in_turn (test_rules setting locals entry exit)
        (in_turn r (check_statements setting locals (turned again)))) (checks_turned locals first)
        ∙ ap (λ r. in_turn (test_rules setting locals entry exit) (in_turn (check_statements setting locals first) r))
        (checks_turned locals again)
    statement_checks_turned locals (Construct at class name body end) =
        ap (λ r. in_turn (construct_rules setting locals class name end) r)
        (checks_turned (with_object setting locals class name) body)
    statement_checks_turned locals (Local at var value body end_var end_value) =
        ap (λ r. in_turn (local_rules setting locals at var value end_var end_value) r)
        (checks_turned (with_local setting locals var) body)
    statement_checks_turned locals _ = refl

    pub checks_turned : (locals : Locals) (b : Statements)
        → check_statements setting locals (turned b) ≡ check_statements setting locals b
    checks_turned locals End = refl
    checks_turned locals (Then s b) =
        ap (λ r. in_turn r (check_statements setting locals (turned b))) (statement_checks_turned locals s)
        ∙ ap (in_turn (check_statement setting locals s)) (checks_turned locals b)
