use Rattle.std.proofs.Common.{ap, ◌∙◌}
use Rattle.pisa_loader.specs.InputLines.{entry_in, entry}
use Rattle.pisa_loader.proofs.InputForm.{line_found, line_read, the_some}
use Rattle.pisa_loader.proofs.laws.lines_have_one_form.Goals as goal

pub returns : goal.returns
returns c = record {
  found = line_found;
  only = λ line name word s. ap entry_in s.spelled ∙ line_read s.parts word s.are_parts s.in_range
      ∙ ap (λ n. the_some (entry n word)) s.same_name;
}
