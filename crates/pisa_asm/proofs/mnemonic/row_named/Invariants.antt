use Rattle.std.proofs.Common.{◌≡◌, drop}
use Rattle.pisa_asm.specs.Mnemonics.{row_among, row_named}
use Rattle.pisa_asm.proofs.mnemonic.row_named.Given as goal

-- what is left decides
abbrev pub invariant-loop-op : goal.invariant-loop-op
invariant-loop-op l = row_among (drop l.op-index l.op-items) l.word ≡ row_named l.word
