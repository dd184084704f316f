-- What fails, as it is reported.
use Rattle.std.proofs.Common.{◌≡◌, ◌∙◌, sym, ap, subst, ℕ, List, Bool, true, false, Some, None, if◌then◌else◌}
use Rattle.std.specs.Prelude.{Option, Result, Ok, Err, IfOk}
use Rattle.source_courses.specs.rpp_words.declared.input.FieldWord.{FieldWord}
use Rattle.source_courses.specs.rpp_words.declared.input.Limits.{Limits}
use Rattle.source_courses.specs.rpp_tree.Tree.{Source}
use Rattle.source_courses.specs.roopl_semantics.Execution.{Setting}
use Rattle.source_courses.specs.meaning_machine.SourceLaws.{set_for}
use Rattle.source_courses.specs.source_execution.declared.falling.Failing.{Failing}
use Rattle.source_courses.specs.source_execution.Standing.{config_at, setting_at}
use Rattle.source_courses.specs.source_execution.Falls.{IsFailing, IsFailingOf, failing_of}
use Rattle.source_courses.specs.declared.moves.Walk.{Walk}
use Rattle.source_debugger.specs.Failures.{Show, Account, failure, failure_at, failure_by, fails_at, is_fault}
use Rattle.source_debugger.specs.Failures.{stops_with_fault}
use Rattle.source_courses.specs.Walks.{forward}

pub never_fails : (program : Source) (limits : Limits) (input : List FieldWord) (show : Show)
    → failing_of program limits input ≡ None → None ≡ failure program limits input show
never_fails program limits input show e = sym (ap (failure_at show (set_for program limits)) e)

-- a run that was found
pub found_so : (program : Source) (limits : Limits) (input : List FieldWord) (o : Option Failing) (it : Failing)
    → o ≡ Some it → IsFailingOf program limits input o → IsFailing program limits input it
found_so program limits input o it is found =
    subst (λ (f : Option Failing). IsFailingOf program limits input f) is found

pub found_none : (program : Source) (limits : Limits) (input : List FieldWord) (o : Option Failing) → o ≡ None
    → IsFailingOf program limits input o → failing_of program limits input ≡ None
found_none program limits input o is found =
    subst (λ (f : Option Failing). IsFailingOf program limits input f) is found

pub same_program : (program : Source) (limits : Limits) (input : List FieldWord) (it : Failing)
    → IsFailing program limits input it → (setting_at it.execution).program ≡ program
same_program program limits input it f = ap (λ (s : Setting). s.program) f.same

pub fails_so : (program : Source) (limits : Limits) (input : List FieldWord) (show : Show) (it : Failing)
    (text : List ℕ) → IsFailing program limits input it → text
    ≡ show (setting_at it.execution) it.code (config_at it.execution)
    → Some text ≡ failure program limits input show
fails_so program limits input show it text f e =
    ap (λ (t : List ℕ). Some t) e
    ∙ ap (λ (s : Setting). Some (show s it.code (config_at it.execution))) f.same
    ∙ sym (ap (failure_by show (set_for program limits) (config_at it.execution)) f.stops)
    ∙ sym (ap (failure_at show (set_for program limits)) f.first)

-- by whether one more move stops with a fault
by_move : (a : Account) (show : Show) (j : ℕ) (walk : Walk) (b : Bool) → forward a.trail None 1 j ≡ Some walk
    → is_fault walk.ending ≡ b → fails_at a show j ≡ (if b then a.failure show else None)
by_move a show j walk b w f =
    ap (λ (o : Option Walk). if stops_with_fault o then a.failure show else None) w
    ∙ ap (λ (t : Bool). if t then a.failure show else None) f

fails_here : (a : Account) (show : Show) (j : ℕ) (walk : Walk) (told : Option (List ℕ))
    → forward a.trail None 1 j ≡ Some walk → is_fault walk.ending ≡ true → told ≡ a.failure show
    → told ≡ fails_at a show j
fails_here a show j walk told w f e = e ∙ sym (by_move a show j walk true w f)

-- the same of what a function returned
pub fails_here_ok : {X E : Type 0} (view : X → Option (List ℕ)) (result : Result X E) (a : Account) (show : Show)
    (j : ℕ) (walk : Walk) → forward a.trail None 1 j ≡ Some walk → is_fault walk.ending ≡ true
    → IfOk result (λ x. view x ≡ a.failure show) → IfOk result (λ x. view x ≡ fails_at a show j)
fails_here_ok view (Ok x) a show j walk w f e = fails_here a show j walk (view x) w f e
fails_here_ok view (Err why) a show j walk w f e = tt

pub goes_on : (a : Account) (show : Show) (j : ℕ) (walk : Walk) → forward a.trail None 1 j ≡ Some walk
    → is_fault walk.ending ≡ false → None ≡ fails_at a show j
goes_on a show j walk w f = sym (by_move a show j walk false w f)
