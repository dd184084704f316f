-- What is expected of a command's result, and how the result differs.
use Rattle.std.specs.Prelude.{ℕ, ◌==◌, not, ◌&&◌, List, [], ◌∷◌, ◌++◌, length, if◌then◌else◌, codes}
use Rattle.std.specs.Prelude.{Option, Some, None, filter_map, is_some}
use Rattle.std.specs.List.{list_any}
use Rattle.std.specs.Str.{bytes_eq}
use Rattle.row_parts.specs.Pieces.{begins, pieces}
use Rattle.row_parts.specs.Digits.{unsigned}
use Rattle.row_parts.specs.Printed.{Known, fit, parts}

-- a command's result, and what is expected of it: the lines that are to be printed, how the text
-- may not begin, and the statuses of which one is to come
pub record Expected : Type 0 where
  pub status : ℕ
  pub said : List ℕ
  pub wanted : List ℕ
  pub unwanted : List (List ℕ)
  pub statuses : List ℕ

-- nothing printed and the status 0
abbrev pub at_first : ℕ → List ℕ → Expected
at_first status said = record {
  status = status;
  said = said;
  wanted = [];
  unwanted = [];
  statuses = 0 ∷ [];
}

-- one line more; a line of ... alone is any lines
abbrev pub with_line : Expected → List ℕ → Expected
with_line answer line = record answer {
  wanted = answer.wanted
      ++ (line ++ (if bytes_eq line (codes "...") then [] else codes "\n"));
}

-- the statuses that a text writes
abbrev pub statuses : List ℕ → List ℕ
statuses text = filter_map (unsigned 8 10) (pieces (codes " ") text)

-- the text that is to be printed: any, where only its beginning is known
abbrev pub text_wanted : Expected → List ℕ
text_wanted answer = if (length answer.wanted == 0) && not (length answer.unwanted == 0)
    then codes "..." else answer.wanted

-- the numbers that are known if the text fits
abbrev pub fitted : Expected → Known → Option Known
fitted answer known = fit (parts (text_wanted answer)) known answer.said

-- how the result differs first
abbrev pub difference : Expected → Known → Option (List ℕ)
difference answer known =
    if not (list_any (λ status. status == answer.status) answer.statuses)
    then Some (codes "the status is another one")
    else if list_any (begins answer.said) answer.unwanted
    then Some (codes "the output begins as it must not")
    else if is_some (fitted answer known) then None
    else Some (codes "another text is printed")
