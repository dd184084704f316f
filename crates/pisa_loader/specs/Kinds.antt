-- What a byte of a line may be.
use Rattle.std.specs.Prelude.{ℕ, Bool}
use Rattle.std.specs.Char.{is_ascii_alphabetic, is_ascii_digit}
use Rattle.pisa_machine.specs.rpp_words.Names.{is_name_byte}
use Rattle.pisa_loader.specs.declared.lines.Kind.{Kind}
use Rattle.pisa_loader.specs.declared.lines.Kind.TheVariants.{Blank, Letter, InName, Digit}
use Rattle.pisa_loader.specs.InputLines.{is_blank}

-- the bytes of each kind
abbrev pub is_of : Kind → ℕ → Bool
is_of Blank = is_blank
is_of Letter = is_ascii_alphabetic
is_of InName = is_name_byte
is_of Digit = is_ascii_digit
