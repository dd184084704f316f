use Rattle.std.proofs.Common.{sym, ◌∙◌, arith}
use Rattle.tree_walks.proofs.PartByPart.{same_length, bare-block_of}
use Rattle.tree_walks.proofs.alike_code.+alike_code.Goals as goal

-- blocks of other lengths differ
pub alike_blocks-returns-then-len : goal.alike_blocks-returns-then-len
alike_blocks-returns-then-len t c = (
  λ holds. cc,
  λ same.
      let long = same_length c.args.a.now.list.items c.args.b.now.list.items
      (sym (bare-block_of c.args.a.now) ∙ same ∙ bare-block_of c.args.b.now) in
      absurd (c.if-len.true (omega (
        arith,
        long,
        c.len.ensures,
        c.len-2.ensures,
        c.args.a.now.list.ok.0,
        c.args.b.now.list.ok.0,
      ))),
)
