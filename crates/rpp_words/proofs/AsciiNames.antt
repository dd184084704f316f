-- Names are ASCII.
use Rattle.std.proofs.Common.{◌≡◌, ℕ, ◌<◌, true, List, arith}
use Rattle.std.specs.List.{AllPass}
use Rattle.std.specs.Str.{IsAscii}
use Rattle.std.proofs.lemmas.Bool.Decides.{nat_tests}
use Rattle.std.proofs.lemmas.List.Elements.{All-weaker}
use Rattle.std.proofs.lemmas.Str.Ascii.{IsAscii-from_all}
use Rattle.rpp_words.specs.Names.{is_name_byte}

pub name_byte_ascii : (b : ℕ) → is_name_byte b ≡ true → b < 128
name_byte_ascii b is = grind (arith, nat_tests)

pub name_bytes_ascii : (bytes : List ℕ) → AllPass is_name_byte bytes → IsAscii bytes
name_bytes_ascii bytes pass =
    IsAscii-from_all bytes (All-weaker (λ b. is_name_byte b ≡ true) (λ b. b < 128) name_byte_ascii bytes pass)
