-- The words of tests.
use Rattle.std.specs.Prelude.{ℕ, List, codes, length, nat_lt, if◌then◌else◌}

-- the word of a test in the text, by whether it comes before the other test of its statement
abbrev pub choice_word : (test other : ℕ) → List ℕ
choice_word test other = if nat_lt test other then codes "if" else codes "fi"

abbrev pub loop_word : (test other : ℕ) → List ℕ
loop_word test other = if nat_lt test other then codes "from" else codes "until"

-- the same of the value of a variable at its end. What a `construct` or a call on an element holds
-- begins and ends at one offset, and that of a call has no name.
abbrev pub local_word : (name : List ℕ) → (value other : ℕ) → List ℕ
local_word name value other = if nat_lt value other then codes "local"
    else if nat_lt other value then codes "delocal"
    else if nat_lt 0 (length name) then codes "destruct" else codes "call"
