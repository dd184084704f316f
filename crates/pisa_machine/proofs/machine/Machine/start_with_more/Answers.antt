use Rattle.std.proofs.Common.{◌≡◌, List, ℕ, ◌++◌, All, replicate, lit<}
use Rattle.std.proofs.lemmas.List.Elements.{All-append, All-replicate}
use Rattle.pisa_isa.specs.rpp_words.Words.{IsWord}
use Rattle.pisa_isa.proofs.Reached.{reached_first}
use Rattle.pisa_machine.specs.Reached.{words_of}
use Rattle.pisa_machine.proofs.machine.Machine.start_with_more.Goals as goal

pub invariant_of-result : goal.invariant_of-result
invariant_of-result c =
    let regs = c.are_registers.ensures in
    let words = rw c.deref.ensures.value at c.are_words.ensures in
    let zeros : List ℕ = replicate c.args.more 0 in
    let all : All IsWord (c.args.cells.items ++ zeros) = All-append IsWord c.args.cells.items zeros words
    (All-replicate IsWord c.args.more 0 (lit< tt)) in
    let cells = c.in_ok-of.field-0 in
    let kept : words_of cells.words.items cells.count ≡ c.args.cells.items ++ zeros = c.in_ok-of.ensures in
    record {
      is_image = c.start_core.ensures.image;
      reached = rw (c.start_core.ensures.core, kept) (reached_first c.args.image.code c.args.regs
          (c.args.cells.items ++ zeros) regs.count regs.words all);
    }

pub returns : goal.returns
returns c =
    let cells = c.in_ok-of.field-0 in
    let kept : words_of cells.words.items cells.count ≡ c.args.cells.items ++ replicate c.args.more 0 =
    c.in_ok-of.ensures in
    rw (c.start_core.ensures.core, kept)
