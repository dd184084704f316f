-- Memories whose registers are written out.
use Rattle.std.proofs.Common.{ℕ, List}
use Rattle.paired_code.specs.pisa_isa.Machine.{Memory}
use Rattle.refine_form.specs.Form.{registers}

abbrev pub mk : (link object frame at at' word flag place : ℕ) → List ℕ → Memory
mk l o f a b c g p cs = record { regs = registers l o f a b c g p; cells = cs }
