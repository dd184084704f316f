-- The last lines of replies.
use Rattle.std.specs.Prelude.{ℕ, ◌==◌, Bool, List, ◌++◌, codes}
use Rattle.std.specs.List.{list_any}
use Rattle.live_requests.specs.pisa_scripts.rpp_words.Texts.{line_end}
use Rattle.live_talks.specs.declared.ends.End.{End}
use Rattle.live_talks.specs.declared.ends.End.TheVariants.{Done, Met, More, Start, Over, Fault}
use Rattle.live_talks.specs.declared.ends.End.TheVariants.{None, Bad, Long, Memory, Bye}

-- the last line of a reply
abbrev pub end_line : End → List ℕ
end_line Done = codes ". done" ++ line_end
end_line Met = codes ". met" ++ line_end
end_line More = codes ". more" ++ line_end
end_line Start = codes ". start" ++ line_end
end_line Over = codes ". end" ++ line_end
end_line Fault = codes ". fault" ++ line_end
end_line None = codes ". none" ++ line_end
end_line Bad = codes ". bad" ++ line_end
end_line Long = codes ". long" ++ line_end
end_line Memory = codes ". memory" ++ line_end
end_line Bye = codes ". bye" ++ line_end

-- whether a text has a letter
abbrev pub has_letter : ℕ → List ℕ → Bool
has_letter letter text = list_any (λ b. b == letter) text
