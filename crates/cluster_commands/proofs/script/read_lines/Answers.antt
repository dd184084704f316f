use Rattle.std.proofs.Common.{◌≡◌, ◌∙◌, ◌≤◌, ◌+◌, sym, ap, [], map, length, get_or, Bor, List, ℕ, arith}
use Rattle.std.proofs.lemmas.Result.{err_from_is_err_and}
use Rattle.cluster_commands.specs.ClusterScripts.{with_event_line, events_from}
use Rattle.command_plan.specs.pisa_scripts.Lines.{pieces}
use Rattle.cluster_commands.proofs.Reading.{fails_with, goes_on, stops, is_done}
use Rattle.cluster_commands.proofs.script.read_lines.Goals as goal
use Rattle.command_plan.proofs.pisa_scripts_laws.FewLines.{few_lines}

abbrev text_of : Bor (List ℕ) → List ℕ
text_of line = line.now

abbrev no_line : Bor (List ℕ)
no_line = record { ref_ptr = (0, 0); now = [] }

pub overflow_add-number : goal.overflow_add-number
overflow_add-number c =
    let items = c.deref-line-items.result.now in
    let few : length items ≤ length c.args.text.now + 1 =
    few_lines text_of items 10 c.args.text.now (ap (map text_of) c.deref-line-items.ensures.value
    ∙ c.in_ok-lines.ensures) in
    omega arith

pub returns-in_err-add_line : goal.returns-in_err-add_line
returns-in_err-add_line c =
    let p = err_from_is_err_and c.from_residual-in_err-add_line.result c.from_residual-in_err-add_line.ensures.1 in
    let items = c.deref-line-items.result.now in
    let l = c.loop-line in
    let all : events_from c.args.processors 1 [] (map text_of items)
    ≡ events_from c.args.processors 1 [] (pieces 10 c.args.text.now) =
    ap (λ xs. events_from c.args.processors 1 [] (map text_of xs)) c.deref-line-items.ensures.value
    ∙ ap (events_from c.args.processors 1 []) c.in_ok-lines.ensures in
    rw (p.1, p.2) (record {
      events = fails_with c.in_err-add_line.field-0.0 (with_event_line c.args.processors l.number l.events.items
          (text_of (get_or items l.line-index no_line))) (events_from c.args.processors 1 []
          (pieces 10 c.args.text.now))
          (λ r e. sym all ∙ stops c.args.processors text_of l.number l.events.items items l.line-index no_line r
          (events_from c.args.processors 1 [] (map text_of items)) c.loop-line-test.true e l.invariant.so_far)
          c.in_err-add_line.ensures.events;
      there = tt;
      few = tt;
    })

pub loop-line-preserved : goal.loop-line-preserved
loop-line-preserved c =
    let items = c.deref-line-items.result.now in
    let l = c.loop-line in
    record {
      line = omega arith;
      so_far = goes_on c.args.processors text_of l.number l.events.items c.add_line.new.events.items items l.line-index
          no_line (events_from c.args.processors 1 [] (map text_of items)) c.loop-line-test.true
          c.in_ok-add_line.ensures.events l.invariant.so_far;
      there = c.in_ok-add_line.ensures.there;
      few = let one = c.in_ok-add_line.ensures.one in let so_far = l.invariant.few in omega (arith, one, so_far);
    }

pub returns : goal.returns
returns c =
    let items = c.deref-line-items.result.now in
    let l = c.loop-line in
    let all : events_from c.args.processors 1 [] (map text_of items)
    ≡ events_from c.args.processors 1 [] (pieces 10 c.args.text.now) =
    ap (λ xs. events_from c.args.processors 1 [] (map text_of xs)) c.deref-line-items.ensures.value
    ∙ ap (events_from c.args.processors 1 []) c.in_ok-lines.ensures in
    let lines : length items ≤ length c.args.text.now + 1 =
    few_lines text_of items 10 c.args.text.now (ap (map text_of) c.deref-line-items.ensures.value
    ∙ c.in_ok-lines.ensures) in
    let so_far = l.invariant.few in
    let few : length l.events.items ≤ length c.args.text.now + 1 = let end = l.auto.line-index-end in
    omega (arith, so_far, lines, end) in
    record {
      there = l.invariant.there;
      few = few;
      events = sym all
          ∙ is_done c.args.processors text_of l.number l.events.items items l.line-index
          (events_from c.args.processors 1 [] (map text_of items)) c.loop-line-test.false l.invariant.so_far;
    }
