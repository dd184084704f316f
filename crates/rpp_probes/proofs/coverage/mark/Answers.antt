use Rattle.std.proofs.Common.{arith}
use Rattle.rpp_probes.proofs.Marking.{sum_marked, sum_few, marks_set}
use Rattle.rpp_probes.proofs.coverage.mark.Goals as goal

pub returns-clause-more : goal.returns-clause-more
returns-clause-more c =
    let marks = c.args.marks.now.items in
    let old = c.index-old.result.now in
    let least = c.requires.marks c.args.place old c.requires.place in
    omega (arith, sum_marked marks c.args.place old c.requires.place c.requires.marks, least)

pub returns-clause-few : goal.returns-clause-few
returns-clause-few c = sum_few _ (marks_set c.args.marks.now.items c.args.place c.requires.marks)
