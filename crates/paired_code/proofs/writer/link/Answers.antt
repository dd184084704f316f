use Rattle.std.proofs.Common.{List, subst, sym}
use Rattle.std.specs.List.Sorted.{IsPermutation}
use Rattle.code_conventions.specs.pisa_isa.Notes.{NotedImage}
use Rattle.paired_code.specs.Code.{Code, link_marks, EachWithin}
use Rattle.paired_code.proofs.Shifted.{linked_fits}
use Rattle.paired_code.proofs.writer.link.Goals as goal

pub seal-requires : goal.seal-requires
seal-requires c =
    linked_fits c.args.main c.args.routines.items c.in_ok-image.image c.in_ok-marks.marks.items c.new-names.result.items
    c.in_ok-image.ensures.code c.requires.few_marks
    (subst (λ (z : List Code). IsPermutation (link_marks c.args.main z) c.in_ok-marks.marks.items) c.deref.ensures.value
    c.in_ok-marks.ensures.same)
    c.new-names.ensures.items c.in_ok-marks.ensures.within
    (subst EachWithin c.deref.ensures.value c.in_ok-marks.ensures.each_within)

pub returns-clause-marks : goal.returns-clause-marks
returns-clause-marks c =
    subst (λ (n : NotedImage). IsPermutation (link_marks c.args.main c.args.routines.items) n.notes.marks)
    (sym c.seal.ensures)
    (subst (λ (z : List Code). IsPermutation (link_marks c.args.main z) c.in_ok-marks.marks.items) c.deref.ensures.value
    c.in_ok-marks.ensures.same)
