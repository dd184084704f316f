-- The lines on why a machine stopped.
use Rattle.std.specs.Prelude.{ℕ, List, ◌++◌, codes}
use Rattle.std.specs.Fmt.{decimal, signed_decimal}
use Rattle.code_conventions.specs.pisa_isa.declared.machine.Stop.{Stop}
use Rattle.code_conventions.specs.pisa_isa.declared.machine.Stop.TheVariants.{Finished, Returned, Trap, BadAddress}
use Rattle.code_conventions.specs.pisa_isa.declared.machine.Stop.TheVariants.{OffCode, Bound}
use Rattle.code_conventions.specs.rpp_words.Texts.{line_end}
use Rattle.pisa_scripts.specs.Words.{word_shown}
use Rattle.code_conventions.specs.Faults.{fault_name}

abbrev pub fault_line : ℕ → List ℕ
fault_line code = codes "fault " ++ (word_shown code ++ (fault_name code ++ line_end))

-- why a machine stopped
abbrev pub stop_line : Stop → List ℕ
stop_line Finished = codes "finished" ++ line_end
stop_line Returned = codes "returned" ++ line_end
stop_line (Trap code) = fault_line code
stop_line (BadAddress address) = codes "bad address " ++ (decimal address ++ line_end)
stop_line (OffCode place) = codes "off code " ++ (signed_decimal place ++ line_end)
stop_line Bound = codes "bound" ++ line_end
