use Rattle.pisa_asm.proofs.Cutting.{lines_cut}
use Rattle.pisa_asm.proofs.line.first_line.Goals as goal

pub returns-clause-lines : goal.returns-clause-lines
returns-clause-lines c = rw (
  c.all_but_first.ensures,
  c.split_at.ensures.front,
  c.split_at.ensures.back,
  c.line_len.ensures.length,
) (lines_cut c.args.text.now c.requires)
