-- Commands that are carried out one after the other.
use Rattle.std.proofs.Common.{◌≡◌, ℕ, ◌+◌, ◌<◌, ◌≤◌, refl, sym, ap, subst, ◌∙◌, arith, append-nil}
use Rattle.std.proofs.Common.{append_assoc, List, [], ◌∷◌, ◌++◌, length, get_or, take, Option, Some, None}
use Rattle.std.specs.Prelude.{Result, Ok, Err, IfOk}
use Rattle.std.proofs.lemmas.List.{take_more, take_all}
use Rattle.source_courses.specs.rpp_words.declared.input.FieldWord.{FieldWord}
use Rattle.source_courses.specs.rpp_words.declared.input.Limits.{Limits}
use Rattle.source_courses.specs.rpp_tree.declared.tree.Program.{Program}
use Rattle.source_courses.specs.rpp_tree.Tree.{Source}
use Rattle.source_courses.specs.rpp_tree.Views.{source_of}
use Rattle.source_courses.specs.roopl_semantics.Report.{Text}
use Rattle.source_lines.specs.meaning_points.Trail.{Trail, trail}
use Rattle.source_courses.specs.pisa_scripts.declared.command.Command.{Command}
use Rattle.source_courses.specs.declared.running.TheConstants.{MOST_COST}
use Rattle.source_debugger.specs.Shown.{Told, told_by, behind_text, and_told, told}
use Rattle.source_debugger.specs.Standing.{Standing, trail_of, CommandsLead, IsAlongRun}

abbrev told_at : ℕ → Text → Option Told
told_at position text = Some (record { position = position; text = text })

-- ---- one command

pub leads_one : (before after : Standing) (command : Command) (text : Text)
    → told_by (source_of before.program) (trail_of before) command before.position ≡ told_at after.position text
    → after ≡ record before { position = after.position }
    → CommandsLead before (command ∷ []) after text
leads_one before after command text e same = record {
  told = ap (λ o. and_told o (told (source_of before.program) (trail_of before) [])) e
      ∙ ap (told_at after.position) (append-nil text);
  same = same;
}

abbrev standing_at : Program → Limits → List FieldWord → ℕ → Standing
standing_at program limits input position = record {
  program = program;
  limits = limits;
  input = input;
  position = position;
}

-- the same by the parts of a debugger position
pub leads_by : (program : Program) (limits : Limits) (input : List FieldWord) (from to : ℕ) (before : Standing)
    (command : Command) (text : Text)
    → standing_at program limits input from ≡ before → told_by (source_of program)
    (trail (source_of program) limits input MOST_COST) command from ≡ told_at to text
    → CommandsLead before (command ∷ []) (standing_at program limits input to) text
leads_by program limits input from to before command text seen e =
    subst (λ (d : Standing). CommandsLead d (command ∷ []) (standing_at program limits input to) text) seen
    (leads_one (standing_at program limits input from) (standing_at program limits input to) command text e refl)

abbrev position_of : Option Told → ℕ
position_of None = 0
position_of (Some t) = t.position

abbrev text_of : Option Told → Text
text_of None = []
text_of (Some t) = t.text

one_by : (o : Option Told) (program : Source) (trail : Trail) (position : ℕ) (text : Text)
    → and_told o (told program trail []) ≡ told_at position text → o ≡ told_at position text
one_by None program trail position text e = cc
one_by (Some t) program trail position text e =
    let there : t.position ≡ position = ap position_of e in
    let same : t.text ++ [] ≡ text = ap text_of e in
    ap (λ p. told_at p t.text) there ∙ ap (told_at position) (sym (append-nil t.text) ∙ same)

pub one_told : (before after : Standing) (command : Command) (text : Text) → CommandsLead before (command ∷ []) after text
    → told_by (source_of before.program) (trail_of before) command before.position ≡ told_at after.position text
one_told before after command text leads = one_by (told_by (source_of before.program) (trail_of before) command
    before.position) (source_of before.program) (trail_of before) after.position text leads.told

-- ---- a script

-- a script has gone as far as this
pub record IsFollowing (first : Standing) (script left : List Command) (now : Standing) (text : Text) : Type 0 where
  pub rest : told (source_of first.program) (trail_of first) script first.position
      ≡ behind_text text (told (source_of first.program) (trail_of first) left now.position)
  pub same : now ≡ record first { position = now.position }

behind_both : (a b : Text) (o : Option Told) → behind_text a (behind_text b o) ≡ behind_text (a ++ b) o
behind_both a b None = refl
behind_both a b (Some t) = ap (told_at t.position) (sym (append_assoc a b t.text))

pub following_next : (first now next : Standing) (script left rest : List Command) (command : Command)
    (before text after : Text) → IsFollowing first script left now before → left ≡ command ∷ rest
    → CommandsLead now (command ∷ []) next text → after ≡ before ++ text
    → IsFollowing first script rest next after
following_next first now next script left rest command before text after is e leads more =
    let one : told_by (source_of first.program) (trail_of first) command now.position ≡ told_at next.position text
    = ap (λ (d : Standing). told_by (source_of d.program) (trail_of d) command now.position) (sym is.same)
    ∙ one_told now next command text leads in
    record {
      rest = is.rest
          ∙ ap (λ l. behind_text before (told (source_of first.program) (trail_of first) l now.position)) e
          ∙ ap (λ o. behind_text before (and_told o (told (source_of first.program) (trail_of first) rest))) one
          ∙ behind_both before text (told (source_of first.program) (trail_of first) rest next.position)
          ∙ ap (λ t. behind_text t (told (source_of first.program) (trail_of first) rest next.position)) (sym more);
      same = leads.same ∙ ap (λ (d : Standing). record d { position = next.position }) is.same;
    }

pub following_over : (first now : Standing) (script left : List Command) (text : Text)
    → IsFollowing first script left now text → left ≡ [] → CommandsLead first script now text
following_over first now script left text is e = record {
  told = is.rest ∙ ap (λ l. behind_text text (told (source_of first.program) (trail_of first) l now.position)) e
      ∙ ap (told_at now.position) (append-nil text);
  same = is.same;
}

-- these commands have been carried out: whatever is left is printed after their text
pub record IsFollowed (first : Standing) (done : List Command) (now : Standing) (text : Text) : Type 0 where
  pub follows : (left : List Command) → IsFollowing first (done ++ left) left now text

pub followed_next : (first now next : Standing) (done : List Command) (command : Command) (before text after : Text)
    → IsFollowed first done now before → CommandsLead now (command ∷ []) next text → after ≡ before ++ text
    → IsFollowed first (done ++ command ∷ []) next after
followed_next first now next done command before text after is leads more = record {
  follows = λ left. subst (λ commands. IsFollowing first commands left next after)
      (sym (append_assoc done (command ∷ []) left))
      (following_next first now next (done ++ command ∷ left) (command ∷ left) left command before text after
      (is.follows (command ∷ left)) refl leads more);
}

-- the command at an index as well
pub followed_more : (first now next : Standing) (script : List Command) (i : ℕ) (d : Command)
    (before text after : Text) → i < length script → IsFollowed first (take i script) now before
    → CommandsLead now (get_or script i d ∷ []) next text → after ≡ before ++ text
    → IsFollowed first (take (i + 1) script) next after
followed_more first now next script i d before text after h is leads more =
    subst (λ done. IsFollowed first done next after) (sym (take_more script i d h))
    (followed_next first now next (take i script) (get_or script i d) before text after is leads more)

pub followed_leads : (first now : Standing) (done : List Command) (text : Text) → IsFollowed first done now text
    → CommandsLead first done now text
followed_leads first now done text is =
    subst (λ commands. CommandsLead first commands now text) (append-nil done)
    (following_over first now (done ++ []) [] text (is.follows []) refl)

pub followed_along : (first now : Standing) (script : List Command) (i : ℕ) (text : Text)
    → IsFollowed first (take i script) now text → IsAlongRun first script now
followed_along first now script i text is = record {
  made = i;
  text = text;
  leads = followed_leads first now (take i script) text is;
}

pub followed_over : (first now : Standing) (script : List Command) (i : ℕ) (text : Text) → length script ≤ i
    → IsFollowed first (take i script) now text → CommandsLead first script now text
followed_over first now script i text h is =
    subst (λ commands. CommandsLead first commands now text) (take_all i script h)
    (followed_leads first now (take i script) text is)

-- a result within a bound
pub within_as : {A E : Type 0} (r : Result A E) (f : A → ℕ) (k bound : ℕ) → k ≤ bound → IfOk r (λ a. f a ≡ k)
    → IfOk r (λ a. f a ≤ bound)
within_as (Ok a) f k bound h e = omega arith
within_as (Err x) f k bound h e = tt
