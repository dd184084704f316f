-- The lines of a script are requests.
use Rattle.std.proofs.Common.{◌≡◌, ◌∙◌, refl, sym, ap, subst, cond, ℕ, ◌+◌, List, [], ◌∷◌, ◌++◌, Bool, true, inl, inr}
use Rattle.std.proofs.Common.{false, Some, None, Result, Ok, Err, append_assoc, append-nil}
use Rattle.std.specs.Prelude.{Option, ◌⊎◌, nat_eq, ◌&&◌, ◌||◌, if◌then◌else◌, codes}
use Rattle.std.proofs.lemmas.Bool.{false_from_ne_true}
use Rattle.std.proofs.lemmas.Slice.Eq.{bytes_eq-Decides}
use Rattle.std.specs.List.{list_any, slice_split, onto_first}
use Rattle.std.specs.Str.{bytes_eq}
use Rattle.debugger_scripts.specs.pisa_scripts.Lines.{is_blank, pieces, begins_with, without_returns}
use Rattle.debugger_scripts.specs.pisa_scripts.declared.command.Command.{Command}
use Rattle.debugger_scripts.specs.declared.error.ScriptError.{ScriptError}
use Rattle.debugger_scripts.specs.Scripts.{script_of, command_of, with_command, with_line, and_then, commands_from}
use Rattle.live_requests.specs.declared.request.Request.TheVariants.{Nothing, Carry}
use Rattle.live_requests.specs.Requests.{or_other, request_of}

-- ---- lines have no line feed

abbrev has_feed : List ℕ → Bool
has_feed line = list_any (λ b. nat_eq b 10) line

-- none of the lines has one
abbrev HaveNone : List (List ℕ) → Type 0
HaveNone [] = Unit {0}
HaveNone (line ∷ lines) = (has_feed line ≡ false) × HaveNone lines

none_onto : (x : ℕ) (lines : List (List ℕ)) → nat_eq x 10 ≡ false → HaveNone lines → HaveNone (onto_first x lines)
none_onto x [] is none = (rw is refl, tt)
none_onto x (line ∷ lines) is none = (rw (is, none.0) refl, none.1)

none_cond : (b : Bool) (x : ℕ) (lines : List (List ℕ)) → nat_eq x 10 ≡ b → HaveNone lines
    → HaveNone (cond b ([] ∷ lines) (onto_first x lines))
none_cond true x lines is none = (refl, none)
none_cond false x lines is none = none_onto x lines is none

pieces_none : (bytes : List ℕ) → HaveNone (slice_split (λ b. nat_eq b 10) bytes)
pieces_none [] = (refl, tt)
pieces_none (b ∷ bytes) = none_cond (nat_eq b 10) b (slice_split (λ b. nat_eq b 10) bytes) refl (pieces_none bytes)

or_left : (a b : Bool) → (a || b) ≡ false → a ≡ false
or_left true b e = e
or_left false b e = refl

or_right : (a b : Bool) → (a || b) ≡ false → b ≡ false
or_right true b e = cc
or_right false b e = e

split_whole : (line : List ℕ) → has_feed line ≡ false → pieces 10 line ≡ line ∷ []
split_whole [] none = refl
split_whole (b ∷ line) none =
    rw (or_left (nat_eq b 10) (has_feed line) none, split_whole line (or_right (nat_eq b 10) (has_feed line) none)) refl

begins_not : (line : List ℕ) → has_feed line ≡ false → begins_with 10 line ≡ false
begins_not [] none = refl
begins_not (b ∷ line) none = or_left (nat_eq b 10) (has_feed line) none

and_no : (a : Bool) → (a && false) ≡ false
and_no true = refl
and_no false = refl

returns_whole : (line : List ℕ) → has_feed line ≡ false → without_returns line ≡ line
returns_whole [] none = refl
returns_whole (b ∷ line) none =
    let rest = or_right (nat_eq b 10) (has_feed line) none in
    rw (begins_not line rest, and_no (nat_eq b 13), returns_whole line rest) refl

-- ---- what one line asks

last_line : (read : Result (List Command) ScriptError) → and_then read (λ more. commands_from 2 more []) ≡ read
unfolding commands_from
last_line (Ok commands) = refl
last_line (Err e) = refl

one_line : (line : List ℕ) → has_feed line ≡ false → script_of line ≡ with_line 1 [] line
unfolding commands_from
one_line line none =
    ap (λ (text : List ℕ). commands_from 1 [] (pieces 10 text)) (returns_whole line none)
    ∙ ap (commands_from 1 []) (split_whole line none) ∙ last_line (with_line 1 [] line)

quit_is_no_command : command_of (pieces 32 (codes "quit")) ≡ None
unfolding command_of
quit_is_no_command = refl

stack_is_no_command : command_of (pieces 32 (codes "stack")) ≡ None
unfolding command_of
stack_is_no_command = refl

fault_is_no_command : command_of (pieces 32 (codes "fault")) ≡ None
unfolding command_of
fault_is_no_command = refl

none_some : (command : Command) → None ≡ Some command → ⊥
none_some command e = cc

err_ok : {line : ScriptError} {commands : List Command} → Err line ≡ Ok commands → ⊥
err_ok e = cc

abbrev good : List Command → Result (List Command) ScriptError
good commands = Ok commands

ok_ok : {one two : List Command} → good one ≡ good two → one ≡ two
ok_ok e = cc

no_word : (line word : List ℕ) → (line ≡ word → ⊥) → bytes_eq line word ≡ false
no_word line word other = false_from_ne_true (bytes_eq line word) (λ e. other ((bytes_eq-Decides line word).0 e))

blank_quit : is_blank (codes "quit") ≡ true → ⊥
blank_quit e = cc

blank_stack : is_blank (codes "stack") ≡ true → ⊥
blank_stack e = cc

blank_fault : is_blank (codes "fault") ≡ true → ⊥
blank_fault e = cc

command_quit : (command : Command) → command_of (pieces 32 (codes "quit")) ≡ Some command → ⊥
command_quit command e = none_some command (sym quit_is_no_command ∙ e)

command_stack : (command : Command) → command_of (pieces 32 (codes "stack")) ≡ Some command → ⊥
command_stack command e = none_some command (sym stack_is_no_command ∙ e)

command_fault : (command : Command) → command_of (pieces 32 (codes "fault")) ≡ Some command → ⊥
command_fault command e = none_some command (sym fault_is_no_command ∙ e)

asks_read : (line : List ℕ) → has_feed line ≡ false → (line ≡ codes "quit" → ⊥) → (line ≡ codes "stack" → ⊥)
    → (line ≡ codes "fault" → ⊥) → request_of line ≡ or_other line (with_line 1 [] line)
asks_read line none quits stacks fails =
    rw (
      no_word line (codes "quit") quits,
      no_word line (codes "stack") stacks,
      no_word line (codes "fault") fails,
      one_line line none,
    ) refl

blank_asks : (line : List ℕ) → has_feed line ≡ false → is_blank line ≡ true → request_of line ≡ Nothing
blank_asks line none blank =
    asks_read line none (λ e. blank_quit (subst (λ (l : List ℕ). is_blank l ≡ true) e blank))
    (λ e. blank_stack (subst (λ (l : List ℕ). is_blank l ≡ true) e blank))
    (λ e. blank_fault (subst (λ (l : List ℕ). is_blank l ≡ true) e blank)) ∙ rw blank refl

command_asks : (line : List ℕ) (command : Command) → has_feed line ≡ false → is_blank line ≡ false
    → command_of (pieces 32 line) ≡ Some command → request_of line ≡ Carry command
command_asks line command none blank is =
    asks_read line none (λ e. command_quit command
    (subst (λ (l : List ℕ). command_of (pieces 32 l) ≡ Some command) e is))
    (λ e. command_stack command
    (subst (λ (l : List ℕ). command_of (pieces 32 l) ≡ Some command) e is))
    (λ e. command_fault command
    (subst (λ (l : List ℕ). command_of (pieces 32 l) ≡ Some command) e is)) ∙ rw (blank, is) refl

-- ---- line by line

-- each line asks nothing, or the next of the commands
abbrev pub AreCommands : List Command → List (List ℕ) → Type 0
AreCommands commands [] = commands ≡ []
AreCommands commands (line ∷ lines) =
    ((request_of line ≡ Nothing) × AreCommands commands lines)
    ⊎ ((command : Command) × (rest : List Command) × (request_of line ≡ Carry command)
    × (commands ≡ command ∷ rest) × AreCommands rest lines)

-- the commands of these lines come after others
record AreLines (before commands : List Command) (lines : List (List ℕ)) : Type 0 where
  rest : List Command
  joined : commands ≡ before ++ rest
  are : AreCommands rest lines

blank_line : (before commands : List Command) (line : List ℕ) (lines : List (List ℕ)) → request_of line ≡ Nothing
    → AreLines before commands lines → AreLines before commands (line ∷ lines)
blank_line before commands line lines is h = record { rest = h.rest; joined = h.joined; are = inl (is, h.are) }

command_line : (before commands : List Command) (command : Command) (line : List ℕ) (lines : List (List ℕ))
    → request_of line ≡ Carry command → AreLines (before ++ command ∷ []) commands lines
    → AreLines before commands (line ∷ lines)
command_line before commands command line lines is h = record {
  rest = command ∷ h.rest;
  joined = h.joined ∙ append_assoc before (command ∷ []) h.rest;
  are = inr (command, h.rest, is, refl, h.are);
}

-- one line, by whether it is blank, and by the command that it is
by_line : (n : ℕ) (before commands : List Command) (line : List ℕ) (lines : List (List ℕ)) (b : Bool)
    (o : Option Command) → has_feed line ≡ false → is_blank line ≡ b → command_of (pieces 32 line) ≡ o
    → ((more : List Command) → commands_from (n + 1) more lines ≡ Ok commands → AreLines more commands lines)
    → and_then (if b then Ok before else with_command n before o) (λ more. commands_from (n + 1) more lines)
    ≡ Ok commands
    → AreLines before commands (line ∷ lines)
by_line n before commands line lines true o none blank is next e =
    blank_line before commands line lines (blank_asks line none blank) (next before e)
by_line n before commands line lines false (Some command) none blank is next e =
    command_line before commands command line lines (command_asks line command none blank is)
    (next (before ++ command ∷ []) e)
by_line n before commands line lines false None none blank is next e = absurd (err_ok e)

are_lines : (n : ℕ) (before commands : List Command) (lines : List (List ℕ)) → HaveNone lines
    → commands_from n before lines ≡ Ok commands → AreLines before commands lines
unfolding commands_from
are_lines n before commands [] none e = record {
  rest = [];
  joined = sym (ok_ok e) ∙ sym (append-nil before);
  are = refl;
}
are_lines n before commands (line ∷ lines) none e =
    by_line n before commands line lines (is_blank line) (command_of (pieces 32 line)) none.0 refl refl
    (λ more. are_lines (n + 1) more commands lines none.1) e

pub script_lines : (script : List ℕ) (commands : List Command) → script_of script ≡ Ok commands
    → AreCommands commands (pieces 10 (without_returns script))
script_lines script commands read =
    let h = are_lines 1 [] commands (pieces 10 (without_returns script)) (pieces_none (without_returns script)) read in
    subst (λ (c : List Command). AreCommands c (pieces 10 (without_returns script))) (sym h.joined) h.are
