use Rattle.std.proofs.Common.{◌≡◌, ◌∙◌, ap, sym, refl, true, false, get_or}
use Rattle.std.specs.Str.{bytes_eq}
use Rattle.pisa_isa.specs.declared.cell.Op.TheVariants.{Add}
use Rattle.pisa_asm.specs.Mnemonics.{mnemonic, rows}
use Rattle.pisa_asm.proofs.Reading.{row_found, row_passed}
use Rattle.pisa_asm.proofs.mnemonic.row_named.Goals as goal

pub loop-op-init : goal.loop-op-init
unfolding rows
loop-op-init c = refl

pub returns-then-eq : goal.returns-then-eq
unfolding rows
returns-then-eq c =
    let e : bytes_eq c.args.word.now (mnemonic (get_or rows c.loop-op.op-index Add)) ≡ true =
    ap (λ m. bytes_eq c.args.word.now m) (sym (c.as_bytes.ensures.value ∙ c.mnemonic.ensures)) ∙ sym c.eq.ensures
    ∙ c.if-eq.true in
    sym (row_found rows c.loop-op.op-index Add c.args.word.now c.loop-op-test.true e) ∙ c.loop-op.invariant

pub loop-op-preserved : goal.loop-op-preserved
unfolding rows
loop-op-preserved c =
    let e : bytes_eq c.args.word.now (mnemonic (get_or rows c.loop-op.op-index Add)) ≡ false =
    ap (λ m. bytes_eq c.args.word.now m) (sym (c.as_bytes.ensures.value ∙ c.mnemonic.ensures)) ∙ sym c.eq.ensures
    ∙ c.if-eq.false in
    sym (row_passed rows c.loop-op.op-index Add c.args.word.now c.loop-op-test.true e) ∙ c.loop-op.invariant
