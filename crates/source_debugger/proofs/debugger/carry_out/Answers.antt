use Rattle.std.proofs.Common.{◌≡◌, ◌∙◌, sym, ap, subst, rules, Option, Some}
use Rattle.std.specs.Prelude.{IfOk, string_bytes}
use Rattle.source_courses.specs.rpp_tree.Views.{source_of}
use Rattle.source_lines.specs.meaning_points.Trail.{trail}
use Rattle.source_courses.specs.pisa_scripts.declared.command.Command.{Command}
use Rattle.source_courses.specs.declared.running.TheConstants.{MOST_COST}
use Rattle.source_courses.specs.declared.moves.Walk.{Walk}
use Rattle.source_debugger.specs.declared.debugger.Answer.{Answer}
use Rattle.source_courses.specs.Walks.{forward, backward}
use Rattle.source_debugger.specs.Shown.{Told, walked_trail, told_by}
use Rattle.source_debugger.proofs.Following.{within_as}
use Rattle.source_debugger.proofs.debugger.carry_out.Goals as goal

pub returns-in_ok-walk-in-Step-clause-told : goal.returns-in_ok-walk-in-Step-clause-told
returns-in_ok-walk-in-Step-clause-told c =
    subst (λ (o : Option Told). IfOk c.walk_answer.result
    (λ (answer : Answer). o ≡ Some (record { position = answer.position; text = string_bytes answer.text })))
    (sym (ap (λ (command : Command). told_by (source_of c.args.run.now.checked.now)
    (trail (source_of c.args.run.now.checked.now) c.args.run.now.limits c.args.run.now.input.now.words.items
    MOST_COST) command c.args.position) c.in-Step.is
    ∙ ap (walked_trail (trail (source_of c.args.run.now.checked.now) c.args.run.now.limits
    c.args.run.now.input.now.words.items MOST_COST)) c.in_ok-walk-in-Step.ensures.walk))
    c.walk_answer.ensures.told

pub returns-in_ok-walk-in-Step-clause-within : goal.returns-in_ok-walk-in-Step-clause-within
returns-in_ok-walk-in-Step-clause-within c = within_as c.walk_answer.result (λ (answer : Answer). answer.position)
    c.in_ok-walk-in-Step.walk.position _ c.in_ok-walk-in-Step.ensures.within c.walk_answer.ensures.within

pub returns-in_ok-walk-in-Back-clause-told : goal.returns-in_ok-walk-in-Back-clause-told
returns-in_ok-walk-in-Back-clause-told c =
    subst (λ (o : Option Told). IfOk c.walk_answer-in-Back.result
    (λ (answer : Answer). o ≡ Some (record { position = answer.position; text = string_bytes answer.text })))
    (sym (ap (λ (command : Command). told_by (source_of c.args.run.now.checked.now)
    (trail (source_of c.args.run.now.checked.now) c.args.run.now.limits c.args.run.now.input.now.words.items
    MOST_COST) command c.args.position) c.in-Back.is
    ∙ ap (λ (w : Walk). walked_trail (trail (source_of c.args.run.now.checked.now) c.args.run.now.limits
    c.args.run.now.input.now.words.items MOST_COST) (Some w)) c.in_ok-walk-in-Back.ensures.walk))
    c.walk_answer-in-Back.ensures.told

pub returns-in_ok-walk-in-Back-clause-within : goal.returns-in_ok-walk-in-Back-clause-within
returns-in_ok-walk-in-Back-clause-within c = within_as c.walk_answer-in-Back.result
    (λ (answer : Answer). answer.position) c.in_ok-walk-in-Back.walk.position _
    c.in_ok-walk-in-Back.ensures.within c.walk_answer-in-Back.ensures.within

pub returns-in_ok-walk-in-To-clause-told : goal.returns-in_ok-walk-in-To-clause-told
returns-in_ok-walk-in-To-clause-told c =
    let walk : forward (trail (source_of c.args.run.now.checked.now) c.args.run.now.limits
    c.args.run.now.input.now.words.items MOST_COST) (Some c.in-To.place) c.in-To.most c.args.position
    ≡ Some c.in_ok-walk-in-To.walk = search (rules, c.in_ok-walk-in-To.ensures.walk) in
    subst (λ (o : Option Told). IfOk c.walk_answer-in-To.result
    (λ (answer : Answer). o ≡ Some (record { position = answer.position; text = string_bytes answer.text })))
    (sym (ap (λ (command : Command). told_by (source_of c.args.run.now.checked.now)
    (trail (source_of c.args.run.now.checked.now) c.args.run.now.limits c.args.run.now.input.now.words.items
    MOST_COST) command c.args.position) c.in-To.is ∙ ap
    (walked_trail (trail (source_of c.args.run.now.checked.now) c.args.run.now.limits
    c.args.run.now.input.now.words.items MOST_COST)) walk))
    c.walk_answer-in-To.ensures.told

pub returns-in_ok-walk-in-To-clause-within : goal.returns-in_ok-walk-in-To-clause-within
returns-in_ok-walk-in-To-clause-within c = within_as c.walk_answer-in-To.result
    (λ (answer : Answer). answer.position) c.in_ok-walk-in-To.walk.position _ c.in_ok-walk-in-To.ensures.within
    c.walk_answer-in-To.ensures.within

pub returns-in_ok-walk-in-BackTo-clause-told : goal.returns-in_ok-walk-in-BackTo-clause-told
returns-in_ok-walk-in-BackTo-clause-told c =
    let walk : backward (trail (source_of c.args.run.now.checked.now) c.args.run.now.limits
    c.args.run.now.input.now.words.items MOST_COST) (Some c.in-BackTo.place) c.in-BackTo.most c.args.position
    ≡ c.in_ok-walk-in-BackTo.walk = search (rules, c.in_ok-walk-in-BackTo.ensures.walk) in
    subst (λ (o : Option Told). IfOk c.walk_answer-in-BackTo.result
    (λ (answer : Answer). o ≡ Some (record { position = answer.position; text = string_bytes answer.text })))
    (sym (ap (λ (command : Command). told_by (source_of c.args.run.now.checked.now)
    (trail (source_of c.args.run.now.checked.now) c.args.run.now.limits c.args.run.now.input.now.words.items
    MOST_COST) command c.args.position) c.in-BackTo.is
    ∙ ap (λ (w : Walk). walked_trail (trail (source_of c.args.run.now.checked.now) c.args.run.now.limits
    c.args.run.now.input.now.words.items MOST_COST) (Some w)) walk))
    c.walk_answer-in-BackTo.ensures.told

pub returns-in_ok-walk-in-BackTo-clause-within : goal.returns-in_ok-walk-in-BackTo-clause-within
returns-in_ok-walk-in-BackTo-clause-within c = within_as c.walk_answer-in-BackTo.result
    (λ (answer : Answer). answer.position) c.in_ok-walk-in-BackTo.walk.position _
    c.in_ok-walk-in-BackTo.ensures.within c.walk_answer-in-BackTo.ensures.within
