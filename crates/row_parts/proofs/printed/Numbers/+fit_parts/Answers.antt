use Rattle.std.proofs.Common.{ap, ◌∙◌, map}
use Rattle.row_parts.specs.Printed.{fit}
use Rattle.row_parts.specs.Shown.{part_shown}
use Rattle.row_parts.proofs.LongestDots.{later, any_first, dots_fit, dots_not, to_end}
use Rattle.row_parts.proofs.printed.Numbers.+fit_parts.Goals as goal

pub returns-then-branch-clause-fits : goal.returns-then-branch-clause-fits
returns-then-branch-clause-fits t c =
    ap (λ parts. fit parts c.args.self.now c.args.said.now)
    (any_first c.args.parts.now c.part-item.result c.in-len1-up.len_at_least c.part-item.is c.in-Any.is)
    ∙ dots_fit (map part_shown (later c.args.parts.now)) c.args.self.now c.args.said.now c.ends.begin
    c.fit_parts-in-ends.new.self c.ends.invariant.within c.ends.invariant.tried
    (rw (to_end c.ends.begin c.args.said.now, c.ends.invariant.known, c.if-branch.true) at
    c.in_ok-fit_parts-in-Any.ensures.fits)

pub returns-then-begin-eq0-clause-fits : goal.returns-then-begin-eq0-clause-fits
returns-then-begin-eq0-clause-fits t c =
    ap (λ parts. fit parts c.args.self.now c.args.said.now)
    (any_first c.args.parts.now c.part-item.result c.in-len1-up.len_at_least c.part-item.is c.in-Any.is)
    ∙ dots_not (map part_shown (later c.args.parts.now)) c.args.self.now c.args.said.now c.ends.begin c.if-begin-eq0.true
    c.ends.invariant.tried
    (rw (to_end c.ends.begin c.args.said.now, c.ends.invariant.known, c.if-branch.false) at
    c.in_ok-fit_parts-in-Any.ensures.fits)
