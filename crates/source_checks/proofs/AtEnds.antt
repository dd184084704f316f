-- What is tested at the end of a block.
use Rattle.std.proofs.Common.{◌≡◌, ◌∙◌, refl, sym, ap, ℕ, zero, suc, ◌-◌, ◌≤◌, arith, List, map, reverse, length, Some}
use Rattle.std.specs.Prelude.{Result, Ok, Err, IfOk, slice_get, codes}
use Rattle.source_blocks.specs.rpp_tree.Tree.{Source, Statements, End, Then, Statement}
use Rattle.source_blocks.specs.rpp_tree.Places.{statement_place}
use Rattle.source_blocks.specs.roopl_semantics.Store.{State, Value}
use Rattle.source_blocks.specs.roopl_semantics.Value.{Cell}
use Rattle.source_blocks.specs.roopl_semantics.Execution.{Setting}
use Rattle.source_blocks.specs.meaning_machine.Machine.{Config, Open, OpenPart, Caller, Calling}
use Rattle.source_blocks.specs.declared.frames.Frame.{Frame}
use Rattle.source_blocks.specs.Endings.{IsInCall}
use Rattle.source_blocks.specs.Blocks.{statement_at, statement_count}
use Rattle.source_blocks.specs.Tasks.{task_of}
use Rattle.source_blocks.specs.Opens.{open_of, HasPart}
use Rattle.source_blocks.proofs.Opened.{around_more}
use Rattle.source_blocks.proofs.Last.{HasLast, last_is}
use Rattle.source_checks.specs.Failures.{Tested, tests_of, tested, tested_part, tested_around, tested_begin}
use Rattle.source_checks.specs.Failures.{tested_here}
use Rattle.source_checks.specs.declared.testing.Tested.{Tested as Told}
use Rattle.source_compared.specs.Comparisons.{Compared}
use Rattle.source_checks.specs.Checks.{touched}
use Rattle.source_checks.specs.TestedView.{tested_of, around_place, around_touched, part_touched}

pub part_is : (program : Source) (st : State) (around : List Open) (p : OpenPart) (statement : ℕ) (t : Tested)
    → HasPart around p → statement ≡ around_place around → t ≡ tested_part program st statement p
    → t ≡ tested_around program st around
part_is program st around p statement t h place e =
    let at : around_place around ≡ statement_place h.inmost.here = ap around_place h.is in
    e ∙ ap (λ (k : ℕ). tested_part program st k p) (place ∙ at)
    ∙ ap (tested_part program st (statement_place h.inmost.here)) (sym h.same)
    ∙ sym (ap (tested_around program st) h.is)

-- what the end of a call compares
touched_is : (st : State) (around : List Open) (caller : Caller) (receiver args : List Cell) (held : List Value)
    → HasPart around (Calling caller receiver args held)
    → around_touched st around ≡ touched caller receiver args st
touched_is st around caller receiver args held h =
    ap (around_touched st) h.is ∙ ap (part_touched st) h.same

pub call_is : (program : Source) (st : State) (around : List Open) (statement : ℕ) (t : Tested) → IsInCall around
    → statement ≡ around_place around
    → t ≡ record {
      word = codes "call";
      at = statement;
      statement = statement;
      compared = around_touched st around;
    } → t ≡ tested_around program st around
call_is program st around statement t h place e =
    part_is program st around (Calling h.caller h.receiver h.args h.held) statement t h.part place
    (e ∙ ap (called statement) (touched_is st around h.caller h.receiver h.args h.held h.part))
  where
    called : (statement : ℕ) → Compared → Tested
    called statement compared =
        record { word = codes "call"; at = statement; statement = statement; compared = compared }

none_at : (at : ℕ) (body : Statements) → statement_count body ≤ at → 0 ≡ statement_place (statement_at at body)
none_at at End h = refl
none_at zero (Then s rest) h = absurd (omega arith)
none_at (suc at) (Then s rest) h = none_at at rest (omega arith)

around_is : (frames : List Frame) (frame : Frame) → Some frame ≡ slice_get frames (length frames - 1)
    → around_place (map open_of (reverse frames)) ≡ statement_place (statement_at frame.at (task_of frame.task))
around_is frames frame e =
    let last : HasLast frames frame = last_is frames frame e in
    ap (λ (fs : List Frame). around_place (map open_of (reverse fs))) last.is
    ∙ ap around_place (around_more last.front frame)

pub past_place : (frames : List Frame) (frame : Frame) → Some frame ≡ slice_get frames (length frames - 1)
    → statement_count (task_of frame.task) ≤ frame.at → 0 ≡ around_place (map open_of (reverse frames))
past_place frames frame e h = none_at frame.at (task_of frame.task) h ∙ sym (around_is frames frame e)

-- ---- what the next step tests

pub ends_here : {E : Type 0} (setting : Setting) (code : ℕ) (x : Config) (result : Result Told E) → x.rest ≡ End
    → IfOk result (λ it. tested_of it ≡ tested_around setting.program x.state x.around)
    → IfOk result (λ it. tested_of it ≡ tested setting code x)
ends_here setting code x (Ok it) over e =
    e ∙ sym (ap (λ (r : Statements). tested_here setting code x.state r x.around) over)
ends_here setting code x (Err why) over e = tt

pub begins_here : {E : Type 0} (setting : Setting) (code : ℕ) (x : Config) (result : Result Told E)
    (s line : Statement) (rest : Statements) → x.rest ≡ Then s rest → line ≡ s
    → IfOk result (λ it. tested_of it ≡ tested_begin setting code x.state line (tests_of line))
    → IfOk result (λ it. tested_of it ≡ tested setting code x)
begins_here setting code x (Ok it) s line rest begins is e =
    e ∙ ap (λ (l : Statement). tested_begin setting code x.state l (tests_of l)) is
    ∙ sym (ap (λ (r : Statements). tested_here setting code x.state r x.around) begins)
begins_here setting code x (Err why) s line rest begins is e = tt
