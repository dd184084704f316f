use Rattle.std.proofs.Common.{◌≡◌, ◌∙◌, ◌+◌, ap, sym, subst, refl, length, get_or, drop, None}
use Rattle.pisa_cluster.specs.Schedules.{Schedule, LastOf, next_touch}
use Rattle.pisa_cluster.proofs.Calls.{Found, found, is_free, is_blocked, is_taken}
use Rattle.pisa_cluster.proofs.cluster.Cluster.undo.Goals as goal

pub returns-in-Some-next_touch : goal.returns-in-Some-next_touch
returns-in-Some-next_touch c =
    let kept = ap (λ (s : Schedule). s.kept) c.self.view_is in
    let last : (last : LastOf c.args.who c.args.self.now.kept) × (length last.earlier ≡ c.in-Some.at) =
    subst (λ k. (last : LastOf c.args.who k) × (length last.earlier ≡ c.in-Some.at)) (c.deref.ensures.value ∙ kept)
    c.in-Some.ensures in
    let step = c.index-step.result.now in
    let f : Found c.args.who c.in-Some.at c.args.self.now.kept step =
    found c.args.who c.in-Some.at c.args.self.now.kept step last
    (c.index-step.ensures ∙ ap (λ k. get_or k c.in-Some.at step) kept) in
    record {
      processors = refl;
      cells = refl;
      answer = is_blocked c.args.who c.in-Some.at c.args.self.now step
          c.in-Some-next_touch.other f (ap (λ k. next_touch step (drop (c.in-Some.at + 1) k))
          (sym (ap (λ k. k) c.deref-2.ensures.value ∙ kept)) ∙ ap (next_touch step) (sym c.steps_after.ensures)
          ∙ sym c.next_touch.ensures ∙ c.in-Some-next_touch.is);
    }

pub take_back-requires-clause-free : goal.take_back-requires-clause-free
take_back-requires-clause-free c =
    let kept = ap (λ (s : Schedule). s.kept) c.self.view_is in
    let last : (last : LastOf c.args.who c.args.self.now.kept) × (length last.earlier ≡ c.in-Some.at) =
    subst (λ k. (last : LastOf c.args.who k) × (length last.earlier ≡ c.in-Some.at)) (c.deref.ensures.value ∙ kept)
    c.in-Some.ensures in
    let step = c.index-step.result.now in
    let f : Found c.args.who c.in-Some.at c.args.self.now.kept step =
    found c.args.who c.in-Some.at c.args.self.now.kept step last
    (c.index-step.ensures ∙ ap (λ k. get_or k c.in-Some.at step) kept) in
    let none : next_touch step (drop (c.in-Some.at + 1) c.args.self.now.kept) ≡ None =
    ap (λ k. next_touch step (drop (c.in-Some.at + 1) k)) (sym (ap (λ k. k) c.deref-2.ensures.value ∙ kept))
    ∙ ap (next_touch step) (sym c.steps_after.ensures) ∙ sym c.next_touch.ensures ∙ c.in_default-next_touch.is in
    is_free c.args.who c.in-Some.at c.args.self.now.kept step f none

pub returns : goal.returns
returns c =
    let kept = ap (λ (s : Schedule). s.kept) c.self.view_is in
    let last : (last : LastOf c.args.who c.args.self.now.kept) × (length last.earlier ≡ c.in-Some.at) =
    subst (λ k. (last : LastOf c.args.who k) × (length last.earlier ≡ c.in-Some.at)) (c.deref.ensures.value ∙ kept)
    c.in-Some.ensures in
    let step = c.index-step.result.now in
    let f : Found c.args.who c.in-Some.at c.args.self.now.kept step =
    found c.args.who c.in-Some.at c.args.self.now.kept step last
    (c.index-step.ensures ∙ ap (λ k. get_or k c.in-Some.at step) kept) in
    let none : next_touch step (drop (c.in-Some.at + 1) c.args.self.now.kept) ≡ None =
    ap (λ k. next_touch step (drop (c.in-Some.at + 1) k)) (sym (ap (λ k. k) c.deref-2.ensures.value ∙ kept))
    ∙ ap (next_touch step) (sym c.steps_after.ensures) ∙ sym c.next_touch.ensures ∙ c.in_default-next_touch.is in
    record {
      processors = c.take_back.ensures.processors;
      cells = c.take_back.ensures.cells;
      answer = is_taken c.args.who c.in-Some.at c.args.self.now c.take_back.new.self step f none
          c.take_back.ensures.leads;
    }
