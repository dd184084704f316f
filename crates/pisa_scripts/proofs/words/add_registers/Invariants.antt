use Rattle.std.proofs.Common.{◌≡◌, ◌++◌, drop}
use Rattle.std.specs.Prelude.{string_bytes}
use Rattle.pisa_scripts.specs.Words.{register_lines}
use Rattle.pisa_scripts.proofs.words.add_registers.Given as goal

-- the lines so far and those of the registers that are left are the whole
abbrev pub invariant-loop-number : goal.invariant-loop-number
invariant-loop-number l =
    string_bytes l.lines ++ register_lines l.number (drop l.number l.regs) ≡ register_lines 0 l.regs
