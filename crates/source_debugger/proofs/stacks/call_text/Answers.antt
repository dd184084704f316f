use Rattle.std.proofs.Common.{◌∙◌, sym, ap, List, ℕ, Some}
use Rattle.std.specs.Prelude.{option_map}
use Rattle.source_courses.specs.rpp_tree.Views.{source_of}
use Rattle.source_courses.specs.source_execution.CallsView.{inside_of}
use Rattle.source_courses.specs.source_execution.Standing.{config_at}
use Rattle.source_debugger.specs.Stacks.{inside_named}
use Rattle.source_debugger.proofs.stacks.call_text.Goals as goal

pub returns-in_ok-text-in-Some-clause-told : goal.returns-in_ok-text-in-Some-clause-told
returns-in_ok-text-in-Some-clause-told c =
    let x = config_at c.stand_at.new.course.execution in
    record {
      x = x;
      there = c.in_ok-stand_at.ensures.there;
      shown = ap (λ (t : List ℕ). Some t) (c.in_ok-text-in-Some.ensures x (sym c.heap-heap.ensures.store))
          ∙ ap (option_map (inside_named (source_of c.args.run.now.checked.now) x))
          (ap (option_map inside_of) (sym c.in-Some.is) ∙ c.in_ok-inside.ensures);
    }
