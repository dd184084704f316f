use Rattle.std.proofs.Common.{◌≡◌, ◌∙◌, ◌≤◌, ◌+◌, sym, ap, [], map, length, get_or, Bor, List, ℕ, arith}
use Rattle.std.proofs.lemmas.Result.{err_from_is_err_and}
use Rattle.debugger_scripts.specs.Scripts.{with_line, commands_from}
use Rattle.pisa_scripts.specs.Lines.{pieces}
use Rattle.debugger_scripts.proofs.Reading.{fails_with, goes_on, stops, is_done}
use Rattle.pisa_scripts.proofs.FewLines.{few_lines}
use Rattle.debugger_scripts.proofs.script.read_lines.Goals as goal

abbrev text_of : Bor (List ℕ) → List ℕ
text_of line = line.now

abbrev no_line : Bor (List ℕ)
no_line = record { ref_ptr = (0, 0); now = [] }

pub overflow_add-number : goal.overflow_add-number
overflow_add-number c =
    let items = c.deref-line-items.result.now in
    let few : length items ≤ length c.args.text.now + 1 =
    few_lines text_of items 10 c.args.text.now (ap (map text_of) c.deref-line-items.ensures.value
    ∙ c.in_ok-lines.ensures) in
    omega arith

pub returns-in_err-add_line : goal.returns-in_err-add_line
returns-in_err-add_line c =
    let p = err_from_is_err_and c.from_residual-in_err-add_line.result c.from_residual-in_err-add_line.ensures.1 in
    let items = c.deref-line-items.result.now in
    let l = c.loop-line in
    let all : commands_from 1 [] (map text_of items) ≡ commands_from 1 [] (pieces 10 c.args.text.now) =
    ap (λ xs. commands_from 1 [] (map text_of xs)) c.deref-line-items.ensures.value
    ∙ ap (commands_from 1 []) c.in_ok-lines.ensures in
    rw (p.1, p.2) (fails_with c.in_err-add_line.field-0.0
    (with_line l.number l.commands.items (text_of (get_or items l.line-index no_line)))
    (commands_from 1 [] (pieces 10 c.args.text.now))
    (λ r e. sym all ∙ stops text_of l.number l.commands.items items l.line-index no_line r
    (commands_from 1 [] (map text_of items)) c.loop-line-test.true e l.invariant.so_far)
    c.in_err-add_line.ensures)

pub loop-line-preserved : goal.loop-line-preserved
loop-line-preserved c =
    let items = c.deref-line-items.result.now in
    let l = c.loop-line in
    record {
      line = omega arith;
      so_far = goes_on text_of l.number l.commands.items c.add_line.new.commands.items items l.line-index no_line
          (commands_from 1 [] (map text_of items)) c.loop-line-test.true c.in_ok-add_line.ensures l.invariant.so_far;
    }

pub returns : goal.returns
returns c =
    let items = c.deref-line-items.result.now in
    let l = c.loop-line in
    let all : commands_from 1 [] (map text_of items) ≡ commands_from 1 [] (pieces 10 c.args.text.now) =
    ap (λ xs. commands_from 1 [] (map text_of xs)) c.deref-line-items.ensures.value
    ∙ ap (commands_from 1 []) c.in_ok-lines.ensures in
    sym all ∙ is_done text_of l.number l.commands.items items l.line-index (commands_from 1 [] (map text_of items))
    c.loop-line-test.false l.invariant.so_far
