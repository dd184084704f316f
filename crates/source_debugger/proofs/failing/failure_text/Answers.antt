use Rattle.std.specs.Prelude.{string_bytes}
use Rattle.source_courses.specs.rpp_tree.Views.{source_of}
use Rattle.source_debugger.specs.Failures.{shown_of}
use Rattle.source_debugger.proofs.Stopping.{never_fails, found_so, found_none, same_program, fails_so}
use Rattle.source_debugger.proofs.failing.failure_text.Goals as goal

pub detail_lines-requires-clause-program : goal.detail_lines-requires-clause-program
detail_lines-requires-clause-program c =
    same_program (source_of c.args.run.now.checked.now) c.args.run.now.limits c.args.run.now.input.now.words.items
    c.in-Some.failing
    (found_so (source_of c.args.run.now.checked.now) c.args.run.now.limits c.args.run.now.input.now.words.items
    c.in_ok-find_failing.field-0 c.in-Some.failing c.in-Some.is c.in_ok-find_failing.ensures.found)

pub returns-in-None : goal.returns-in-None
returns-in-None c =
    never_fails (source_of c.args.run.now.checked.now) c.args.run.now.limits c.args.run.now.input.now.words.items
    (shown_of (source_of c.args.run.now.checked.now) c.args.detail)
    (found_none (source_of c.args.run.now.checked.now) c.args.run.now.limits c.args.run.now.input.now.words.items
    c.in_ok-find_failing.field-0 c.in-None.is c.in_ok-find_failing.ensures.found)

pub returns-in_ok-text-in-Some : goal.returns-in_ok-text-in-Some
returns-in_ok-text-in-Some c =
    fails_so (source_of c.args.run.now.checked.now) c.args.run.now.limits c.args.run.now.input.now.words.items
    (shown_of (source_of c.args.run.now.checked.now) c.args.detail)
    c.in-Some.failing (string_bytes c.in_ok-text-in-Some.text)
    (found_so (source_of c.args.run.now.checked.now) c.args.run.now.limits c.args.run.now.input.now.words.items
    c.in_ok-find_failing.field-0 c.in-Some.failing c.in-Some.is c.in_ok-find_failing.ensures.found)
    c.in_ok-text-in-Some.ensures
