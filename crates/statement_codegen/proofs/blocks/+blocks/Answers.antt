use Rattle.std.proofs.Common.{◌≤◌, arith, length, map, sym, ap, ◌∙◌, subst}
use Rattle.std.specs.Prelude.{IfOk}
use Rattle.refine_objects.proofs.rpp_tree_laws.Blocks.{block_of-list}
use Rattle.refine_objects.specs.rpp_tree.Tree.{Call}
use Rattle.refine_objects.specs.rpp_tree.Views.{source_of, expression_of, lvalue_of, optional_lvalue_of, creation_of}
use Rattle.refine_objects.specs.rpp_tree.Views.{statement_of, statements_of, block_of}
use Rattle.branch_codegen.specs.class_rules.Program.{IsAccepted}
use Rattle.statement_codegen.specs.Pieces.{StatementStands, StandsIn, InnerPiece}
use Rattle.statement_codegen.specs.Codes.{with_variable}
use Rattle.refine_objects.proofs.rpp_tree_laws.Statements.{statement_if, statement_from, statement_construct, statement_local}
use Rattle.refine_objects.proofs.rpp_tree_laws.Statements.{statement_update, statement_swap, statement_call, statement_new, statement_delete}
use Rattle.refine_objects.proofs.rpp_tree_laws.Statements.{statement_copy, statement_uncopy}
use Rattle.statement_codegen.proofs.Standing.{taken_stands, other_stands, entered_stands, repeated_stands, inside_stands}
use Rattle.statement_codegen.proofs.Standing.{constructed_stands}
use Rattle.statement_codegen.proofs.Walk.{place_fits, item_stands, making_first, making_next, making_last, item_falls}
use Rattle.statement_codegen.proofs.Walk.{if_falls, from_falls, construct_falls, local_falls}
use Rattle.statement_codegen.proofs.Arms.{if_room, from_room, local_room, if_made, from_made, local_made, popped_is}
use Rattle.statement_codegen.proofs.Arms.{update_room, swap_room, call_few, update_arm, swap_arm}
use Rattle.statement_codegen.proofs.ObjectArms.{construct_made, copy_room, uncopy_room, new_room, delete_room}
use Rattle.statement_codegen.proofs.ObjectArms.{copy_arm, uncopy_arm, new_arm, delete_arm}
use Rattle.statement_codegen.proofs.blocks.+blocks.Goals as goal

pub block_piece-loop-stmt-init : goal.block_piece-loop-stmt-init
block_piece-loop-stmt-init t c =
    making_first c.args.scope.now (block_of c.args.body.now) _ c.empty-piece.result
    (block_of-list c.args.body.now ∙ ap (λ z. statements_of (map statement_of z))
    (sym c.deref-stmt-items.ensures.value)) c.empty-piece.ensures.code c.requires.stands

pub block_piece-inner_piece-requires : goal.block_piece-inner_piece-requires
block_piece-inner_piece-requires t c = (
  (
      let smaller =
      item_falls (block_of c.args.body.now) c.deref-stmt-items.result.now c.loop-stmt.stmt-index c.stmt-item.result
      (block_of-list c.args.body.now ∙ ap (λ z. statements_of (map statement_of z))
      (sym c.deref-stmt-items.ensures.value)) c.loop-stmt-test.true c.stmt-item.is in
      omega (arith, smaller)
      ),
  subst (λ z. StatementStands z (statement_of c.stmt-item.result)) (sym c.loop-stmt.invariant.same)
      (item_stands c.args.scope.now c.deref-stmt-items.result.now c.loop-stmt.stmt-index c.stmt-item.result
      c.loop-stmt-test.true c.stmt-item.is c.loop-stmt.invariant.stands),
)

pub block_piece-then_marked-requires : goal.block_piece-then_marked-requires
block_piece-then_marked-requires t c = record {
  place = place_fits c.args.scope.now (statement_of c.stmt-item.result)
      (item_stands c.args.scope.now c.deref-stmt-items.result.now c.loop-stmt.stmt-index c.stmt-item.result
      c.loop-stmt-test.true c.stmt-item.is c.loop-stmt.invariant.stands);
}

pub block_piece-loop-stmt-preserved : goal.block_piece-loop-stmt-preserved
block_piece-loop-stmt-preserved t c =
    making_next c.args.scope.now (block_of c.args.body.now) c.deref-stmt-items.result.now c.loop-stmt.stmt-index
    c.stmt-item.result c.loop-stmt.scope c.inner_piece.new.scope c.loop-stmt.piece c.in_ok-inner.inner
    c.in_ok-piece.piece
    c.loop-stmt-test.true c.stmt-item.is c.loop-stmt.invariant c.in_ok-inner.ensures.piece c.in_ok-inner.ensures.scope
    c.in_ok-piece.ensures.code

pub block_piece-returns-clause-piece : goal.block_piece-returns-clause-piece
block_piece-returns-clause-piece t c =
    making_last c.args.scope.now (block_of c.args.body.now) c.deref-stmt-items.result.now c.loop-stmt.stmt-index
    c.loop-stmt.scope c.loop-stmt.piece c.loop-stmt-test.false c.loop-stmt.invariant

pub inner_piece-block_piece-requires : goal.inner_piece-block_piece-requires
inner_piece-block_piece-requires t c = (
  let smaller = (if_falls (statement_of c.args.s.now) c.in-If.at
      (expression_of c.in-If.test) (expression_of c.in-If.after) (block_of c.in-If.yes) (block_of c.in-If.no)
      (ap statement_of c.in-If.is ∙ statement_if _ _ _ _ _)).0 in omega (arith, smaller),
  taken_stands c.args.scope.now c.in-If.at (expression_of c.in-If.test) (block_of c.in-If.yes) (block_of c.in-If.no)
      (expression_of c.in-If.after) (subst (StatementStands c.args.scope.now)
      (ap statement_of c.in-If.is ∙ statement_if _ _ _ _ _) c.requires.stands),
)

pub inner_piece-block_piece-requires-in-If : goal.inner_piece-block_piece-requires-in-If
inner_piece-block_piece-requires-in-If t c = (
  (let smaller = (if_falls (statement_of c.args.s.now) c.in-If.at (expression_of c.in-If.test)
      (expression_of c.in-If.after) (block_of c.in-If.yes) (block_of c.in-If.no)
      (ap statement_of c.in-If.is ∙ statement_if _ _ _ _ _)).1 in omega (arith, smaller)),
  subst (λ z. StandsIn z (block_of c.in-If.no)) (sym c.in_ok-yes-in-If.ensures.scope)
      (other_stands c.args.scope.now c.in-If.at (expression_of c.in-If.test) (block_of c.in-If.yes)
      (block_of c.in-If.no) (expression_of c.in-If.after)
      (subst (StatementStands c.args.scope.now) (ap statement_of c.in-If.is ∙ statement_if _ _ _ _ _)
      c.requires.stands)),
)

pub inner_piece-if_code-requires-clause-test_room : goal.inner_piece-if_code-requires-clause-test_room
inner_piece-if_code-requires-clause-test_room t c = (if_room c.args.scope.now (statement_of c.args.s.now) c.in-If.at
    (expression_of c.in-If.test) (expression_of c.in-If.after) (block_of c.in-If.yes) (block_of c.in-If.no)
    (ap statement_of c.in-If.is ∙ statement_if _ _ _ _ _) c.requires.stands).0

pub inner_piece-if_code-requires-clause-after_room : goal.inner_piece-if_code-requires-clause-after_room
inner_piece-if_code-requires-clause-after_room t c = (if_room c.args.scope.now (statement_of c.args.s.now) c.in-If.at
    (expression_of c.in-If.test) (expression_of c.in-If.after) (block_of c.in-If.yes) (block_of c.in-If.no)
    (ap statement_of c.in-If.is ∙ statement_if _ _ _ _ _) c.requires.stands).1

pub inner_piece-block_piece-requires-in-From : goal.inner_piece-block_piece-requires-in-From
inner_piece-block_piece-requires-in-From t c = (
  let smaller
      = (from_falls (statement_of c.args.s.now) c.in-From.at (expression_of c.in-From.entry)
      (expression_of c.in-From.until) (block_of c.in-From.first) (block_of c.in-From.again)
      (ap statement_of c.in-From.is ∙ statement_from _ _ _ _ _)).0 in omega (arith, smaller),
  entered_stands c.args.scope.now c.in-From.at (expression_of c.in-From.entry) (block_of c.in-From.first)
      (block_of c.in-From.again) (expression_of c.in-From.until)
      (subst (StatementStands c.args.scope.now) (ap statement_of c.in-From.is ∙ statement_from _ _ _ _ _)
      c.requires.stands),
)

pub inner_piece-block_piece-requires-in-From-2 : goal.inner_piece-block_piece-requires-in-From-2
inner_piece-block_piece-requires-in-From-2 t c = (
  (let smaller = (from_falls (statement_of c.args.s.now) c.in-From.at (expression_of c.in-From.entry)
      (expression_of c.in-From.until) (block_of c.in-From.first) (block_of c.in-From.again)
      (ap statement_of c.in-From.is ∙ statement_from _ _ _ _ _)).1 in omega (arith, smaller)),
  subst (λ z. StandsIn z (block_of c.in-From.again)) (sym c.in_ok-first-in-From.ensures.scope)
      (repeated_stands c.args.scope.now c.in-From.at (expression_of c.in-From.entry) (block_of c.in-From.first)
      (block_of c.in-From.again) (expression_of c.in-From.until)
      (subst (StatementStands c.args.scope.now) (ap statement_of c.in-From.is ∙ statement_from _ _ _ _ _)
      c.requires.stands)),
)

pub inner_piece-from_code-requires-clause-entry_room : goal.inner_piece-from_code-requires-clause-entry_room
inner_piece-from_code-requires-clause-entry_room t c =
    (from_room c.args.scope.now (statement_of c.args.s.now) c.in-From.at (expression_of c.in-From.entry)
    (expression_of c.in-From.until) (block_of c.in-From.first) (block_of c.in-From.again)
    (ap statement_of c.in-From.is ∙ statement_from _ _ _ _ _) c.requires.stands).0

pub inner_piece-from_code-requires-clause-exit_room : goal.inner_piece-from_code-requires-clause-exit_room
inner_piece-from_code-requires-clause-exit_room t c = (from_room c.args.scope.now (statement_of c.args.s.now)
    c.in-From.at (expression_of c.in-From.entry) (expression_of c.in-From.until) (block_of c.in-From.first)
    (block_of c.in-From.again) (ap statement_of c.in-From.is ∙ statement_from _ _ _ _ _) c.requires.stands).1

pub inner_piece-block_piece-requires-in-Local : goal.inner_piece-block_piece-requires-in-Local
inner_piece-block_piece-requires-in-Local t c = (
  (let smaller = local_falls (statement_of c.args.s.now) c.in-Local.at c.in-Local.var (expression_of c.in-Local.value)
      (block_of c.in-Local.body) c.in-Local.end_var (expression_of c.in-Local.end_value)
      (ap statement_of c.in-Local.is ∙ statement_local _ _ _ _ _ _) in omega (arith, smaller)),
  subst (λ z. StandsIn z (block_of c.in-Local.body)) (sym c.in_ok-push-in-Local.ensures.pushed)
      (inside_stands c.args.scope.now c.in-Local.at c.in-Local.var (expression_of c.in-Local.value)
      (block_of c.in-Local.body) c.in-Local.end_var (expression_of c.in-Local.end_value)
      (subst (StatementStands c.args.scope.now) (ap statement_of c.in-Local.is ∙ statement_local _ _ _ _ _ _)
      c.requires.stands)),
)

pub inner_piece-local_code-requires-clause-value_room : goal.inner_piece-local_code-requires-clause-value_room
inner_piece-local_code-requires-clause-value_room t c =
    (local_room c.args.scope.now (statement_of c.args.s.now) c.in-Local.at c.in-Local.var
    (expression_of c.in-Local.value) (block_of c.in-Local.body) c.in-Local.end_var
    (expression_of c.in-Local.end_value) (ap statement_of c.in-Local.is ∙ statement_local _ _ _ _ _ _)
    c.requires.stands).0

pub inner_piece-local_code-requires-clause-last_room : goal.inner_piece-local_code-requires-clause-last_room
inner_piece-local_code-requires-clause-last_room t c =
    (local_room c.args.scope.now (statement_of c.args.s.now) c.in-Local.at c.in-Local.var
    (expression_of c.in-Local.value) (block_of c.in-Local.body) c.in-Local.end_var
    (expression_of c.in-Local.end_value) (ap statement_of c.in-Local.is ∙ statement_local _ _ _ _ _ _)
    c.requires.stands).1

pub inner_piece-block_piece-requires-in-Construct : goal.inner_piece-block_piece-requires-in-Construct
inner_piece-block_piece-requires-in-Construct t c = (
  (let smaller = construct_falls (statement_of c.args.s.now) c.in-Construct.at c.in-Construct.class c.in-Construct.name
      (block_of c.in-Construct.body) c.in-Construct.end (ap statement_of c.in-Construct.is
      ∙ statement_construct _ _ _ _ _) in omega (arith, smaller)),
  subst (λ z. StandsIn z (block_of c.in-Construct.body))
      (sym (c.in_ok-push-in-Construct.ensures.pushed ∙ ap (with_variable c.args.scope.now)
      c.in_ok-var-in-Construct.ensures))
      (constructed_stands c.args.scope.now c.in-Construct.at c.in-Construct.class c.in-Construct.name
      (block_of c.in-Construct.body) c.in-Construct.end
      (subst (StatementStands c.args.scope.now) (ap statement_of c.in-Construct.is
      ∙ statement_construct _ _ _ _ _) c.requires.stands)),
)

pub inner_piece-returns-in_ok-body-in-Construct-clause-piece :
    goal.inner_piece-returns-in_ok-body-in-Construct-clause-piece
inner_piece-returns-in_ok-body-in-Construct-clause-piece t c =
    construct_made c.args.scope.now c.push-in-Construct.new.self c.block_piece-in-Construct.new.scope
    (statement_of c.args.s.now) c.in-Construct.at c.in-Construct.class c.in-Construct.name
    (block_of c.in-Construct.body) c.in-Construct.end c.in_ok-var-in-Construct.var
    c.in_ok-making-in-Construct.making c.in_ok-body-in-Construct.body c.pop-in-Construct.new.self
    c.construct_code.result
    (ap statement_of c.in-Construct.is ∙ statement_construct _ _ _ _ _) c.requires.stands
    c.in_ok-var-in-Construct.ensures c.in_ok-push-in-Construct.ensures.pushed
    c.in_ok-body-in-Construct.ensures.scope
    (popped_is c.args.scope.now c.push-in-Construct.new.self c.block_piece-in-Construct.new.scope
    c.pop-in-Construct.new.self c.in_ok-var-in-Construct.var c.in_ok-push-in-Construct.ensures.pushed
    c.in_ok-body-in-Construct.ensures.scope c.pop-in-Construct.ensures)
    c.in_ok-making-in-Construct.ensures.law c.in_ok-making-in-Construct.ensures.size
    c.in_ok-body-in-Construct.ensures.piece c.construct_code.ensures.law c.construct_code.ensures.held
    c.construct_code.ensures.size

pub inner_piece-returns-in_ok-no-in-If-clause-piece : goal.inner_piece-returns-in_ok-no-in-If-clause-piece
inner_piece-returns-in_ok-no-in-If-clause-piece t c =
    if_made c.args.scope.now c.block_piece.new.scope c.block_piece-in-If.new.scope (statement_of c.args.s.now)
    c.in-If.at (expression_of c.in-If.test) (expression_of c.in-If.after) (block_of c.in-If.yes)
    (block_of c.in-If.no) c.in_ok-yes-in-If.yes c.in_ok-no-in-If.no c.if_code.result
    (ap statement_of c.in-If.is ∙ statement_if _ _ _ _ _) c.requires.stands
    c.in_ok-yes-in-If.ensures.scope c.in_ok-no-in-If.ensures.scope c.in_ok-yes-in-If.ensures.piece
    c.in_ok-no-in-If.ensures.piece c.if_code.ensures.law c.if_code.ensures.held c.if_code.ensures.size

pub inner_piece-returns-in_ok-again-in-From-clause-piece : goal.inner_piece-returns-in_ok-again-in-From-clause-piece
inner_piece-returns-in_ok-again-in-From-clause-piece t c =
    from_made c.args.scope.now c.block_piece-in-From.new.scope c.block_piece-in-From-2.new.scope
    (statement_of c.args.s.now) c.in-From.at (expression_of c.in-From.entry) (expression_of c.in-From.until)
    (block_of c.in-From.first) (block_of c.in-From.again) c.in_ok-first-in-From.first c.in_ok-again-in-From.again
    c.from_code.result (ap statement_of c.in-From.is ∙ statement_from _ _ _ _ _) c.requires.stands
    c.in_ok-first-in-From.ensures.scope c.in_ok-again-in-From.ensures.scope c.in_ok-first-in-From.ensures.piece
    c.in_ok-again-in-From.ensures.piece c.from_code.ensures.law c.from_code.ensures.held c.from_code.ensures.size

pub inner_piece-returns-in_ok-body-in-Local-clause-piece : goal.inner_piece-returns-in_ok-body-in-Local-clause-piece
inner_piece-returns-in_ok-body-in-Local-clause-piece t c =
    local_made c.args.scope.now c.push.new.self c.block_piece-in-Local.new.scope c.pop.new.self
    (statement_of c.args.s.now) c.in-Local.at c.in-Local.var (expression_of c.in-Local.value)
    (block_of c.in-Local.body) c.in-Local.end_var (expression_of c.in-Local.end_value) c.in_ok-body-in-Local.body
    c.local_code.result (ap statement_of c.in-Local.is ∙ statement_local _ _ _ _ _ _) c.requires.stands
    c.in_ok-push-in-Local.ensures.pushed c.in_ok-body-in-Local.ensures.scope c.pop.ensures
    c.in_ok-body-in-Local.ensures.piece c.local_code.ensures.law c.local_code.ensures.held c.local_code.ensures.size

pub inner_piece-update_code-requires : goal.inner_piece-update_code-requires
inner_piece-update_code-requires t c = record {
  room = update_room c.args.scope.now (statement_of c.args.s.now) c.in-Update.at
      c.in-Update.op (lvalue_of c.in-Update.place) (expression_of c.in-Update.value)
      (ap statement_of c.in-Update.is ∙ statement_update _ _ _ _) c.requires.stands;
}

pub inner_piece-swap_code-requires : goal.inner_piece-swap_code-requires
inner_piece-swap_code-requires t c = record {
  room = swap_room c.args.scope.now (statement_of c.args.s.now) c.in-Swap.at
      (lvalue_of c.in-Swap.left) (lvalue_of c.in-Swap.right) (ap statement_of c.in-Swap.is ∙ statement_swap _ _ _)
      c.requires.stands;
}

pub inner_piece-call_piece-requires : goal.inner_piece-call_piece-requires
inner_piece-call_piece-requires t c = record {
  stands =
      subst (StatementStands c.args.scope.now)
      (ap statement_of c.in-Call.is ∙ statement_call _ _ _ _ _
      ∙ ap (λ z. Call c.in-Call.at c.in-Call.back (optional_lvalue_of c.in-Call.receiver) c.in-Call.method z)
      (sym c.deref.ensures.value)) c.requires.stands;
  few =
      subst (λ z. length z ≤ 32) (sym c.deref.ensures.value)
      (call_few c.args.scope.now (statement_of c.args.s.now) c.in-Call.at c.in-Call.back
      (optional_lvalue_of c.in-Call.receiver) c.in-Call.method c.in-Call.args.items
      (subst (λ z. IsAccepted (source_of z)) c.checked.ensures c.program-program.ensures.accepted)
      (ap statement_of c.in-Call.is ∙ statement_call _ _ _ _ _) c.requires.stands);
}

pub inner_piece-returns-in-Update-clause-piece : goal.inner_piece-returns-in-Update-clause-piece
inner_piece-returns-in-Update-clause-piece t c =
    update_arm c.args.scope.now (statement_of c.args.s.now) c.in-Update.at c.in-Update.op (lvalue_of c.in-Update.place)
    (expression_of c.in-Update.value) c.update_code.result
    (ap statement_of c.in-Update.is ∙ statement_update _ _ _ _) c.requires.stands c.update_code.ensures.law
    c.update_code.ensures.marks c.update_code.ensures.size

pub inner_piece-returns-in-Swap-clause-piece : goal.inner_piece-returns-in-Swap-clause-piece
inner_piece-returns-in-Swap-clause-piece t c =
    swap_arm c.args.scope.now (statement_of c.args.s.now) c.in-Swap.at (lvalue_of c.in-Swap.left)
    (lvalue_of c.in-Swap.right) c.swap_code.result
    (ap statement_of c.in-Swap.is ∙ statement_swap _ _ _) c.requires.stands c.swap_code.ensures.law
    c.swap_code.ensures.marks c.swap_code.ensures.size

pub inner_piece-returns-in-Call-clause-piece : goal.inner_piece-returns-in-Call-clause-piece
inner_piece-returns-in-Call-clause-piece t c =
    subst (λ z. IfOk c.call_piece.result (λ p. InnerPiece c.args.scope.now z p))
    (sym (ap statement_of c.in-Call.is ∙ statement_call _ _ _ _ _
    ∙ ap (λ z. Call c.in-Call.at c.in-Call.back (optional_lvalue_of c.in-Call.receiver) c.in-Call.method z)
    (sym c.deref.ensures.value))) c.call_piece.ensures.piece

pub inner_piece-new_code-requires : goal.inner_piece-new_code-requires
inner_piece-new_code-requires t c = record {
  room = new_room c.args.scope.now (statement_of c.args.s.now) c.in-New.at
      (creation_of c.in-New.made) (lvalue_of c.in-New.place) (ap statement_of c.in-New.is ∙ statement_new _ _ _)
      c.requires.stands;
}

pub inner_piece-new_code-requires-in-Delete : goal.inner_piece-new_code-requires-in-Delete
inner_piece-new_code-requires-in-Delete t c = record {
  room = delete_room c.args.scope.now (statement_of c.args.s.now) c.in-Delete.at
      (creation_of c.in-Delete.made) (lvalue_of c.in-Delete.place)
      (ap statement_of c.in-Delete.is ∙ statement_delete _ _ _) c.requires.stands;
}

pub inner_piece-copy_code-requires : goal.inner_piece-copy_code-requires
inner_piece-copy_code-requires t c = record {
  room = copy_room c.args.scope.now (statement_of c.args.s.now) c.in-Copy.at
      c.in-Copy.kind (lvalue_of c.in-Copy.source) (lvalue_of c.in-Copy.target)
      (ap statement_of c.in-Copy.is ∙ statement_copy _ _ _ _) c.requires.stands;
}

pub inner_piece-copy_code-requires-in-Uncopy : goal.inner_piece-copy_code-requires-in-Uncopy
inner_piece-copy_code-requires-in-Uncopy t c = record {
  room = uncopy_room c.args.scope.now (statement_of c.args.s.now) c.in-Uncopy.at
      c.in-Uncopy.kind (lvalue_of c.in-Uncopy.source) (lvalue_of c.in-Uncopy.target)
      (ap statement_of c.in-Uncopy.is ∙ statement_uncopy _ _ _ _) c.requires.stands;
}

pub inner_piece-returns-in-New-clause-piece : goal.inner_piece-returns-in-New-clause-piece
inner_piece-returns-in-New-clause-piece t c =
    new_arm c.args.scope.now (statement_of c.args.s.now) c.in-New.at (creation_of c.in-New.made)
    (lvalue_of c.in-New.place) c.new_code.result
    (ap statement_of c.in-New.is ∙ statement_new _ _ _) c.requires.stands c.new_code.ensures.law
    c.new_code.ensures.marks c.new_code.ensures.size

pub inner_piece-returns-in_ok-new-in-Delete-clause-piece : goal.inner_piece-returns-in_ok-new-in-Delete-clause-piece
inner_piece-returns-in_ok-new-in-Delete-clause-piece t c =
    delete_arm c.args.scope.now (statement_of c.args.s.now) c.in-Delete.at (creation_of c.in-Delete.made)
    (lvalue_of c.in-Delete.place) c.in_ok-new-in-Delete.new c.mirror.result
    (ap statement_of c.in-Delete.is ∙ statement_delete _ _ _) c.requires.stands c.in_ok-new-in-Delete.ensures.law
    c.in_ok-new-in-Delete.ensures.size c.mirror.ensures.code

pub inner_piece-returns-in-Copy-clause-piece : goal.inner_piece-returns-in-Copy-clause-piece
inner_piece-returns-in-Copy-clause-piece t c =
    copy_arm c.args.scope.now (statement_of c.args.s.now) c.in-Copy.at c.in-Copy.kind (lvalue_of c.in-Copy.source)
    (lvalue_of c.in-Copy.target) c.copy_code.result
    (ap statement_of c.in-Copy.is ∙ statement_copy _ _ _ _) c.requires.stands c.copy_code.ensures.law
    c.copy_code.ensures.marks c.copy_code.ensures.size

pub inner_piece-returns-in_ok-copy-in-Uncopy-clause-piece : goal.inner_piece-returns-in_ok-copy-in-Uncopy-clause-piece
inner_piece-returns-in_ok-copy-in-Uncopy-clause-piece t c =
    uncopy_arm c.args.scope.now (statement_of c.args.s.now) c.in-Uncopy.at c.in-Uncopy.kind
    (lvalue_of c.in-Uncopy.source) (lvalue_of c.in-Uncopy.target) c.in_ok-copy-in-Uncopy.copy
    c.mirror-in-Uncopy.result
    (ap statement_of c.in-Uncopy.is ∙ statement_uncopy _ _ _ _) c.requires.stands c.in_ok-copy-in-Uncopy.ensures.law
    c.in_ok-copy-in-Uncopy.ensures.size c.mirror-in-Uncopy.ensures.code
