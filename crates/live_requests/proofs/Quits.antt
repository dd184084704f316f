-- No script asks for the end of the session, and nothing that is asked of the step that fails.
use Rattle.std.proofs.Common.{◌≡◌, refl, false, ℕ, List, [], ◌∷◌, Bool, true, Result, Ok, Err, if◌then◌else◌}
use Rattle.std.specs.Prelude.{codes, take, drop, length, nat_lt, Option, Some, None, OnErr}
use Rattle.std.specs.Str.{bytes_eq}
use Rattle.debugger_scripts.specs.pisa_scripts.Lines.{short_number}
use Rattle.debugger_scripts.specs.pisa_scripts.declared.command.Command.{Command}
use Rattle.debugger_scripts.specs.pisa_scripts.declared.command.Command.TheVariants.{Step, Back, To, BackTo, Regs, Cells}
use Rattle.debugger_scripts.specs.declared.error.ScriptError.{ScriptError}
use Rattle.debugger_scripts.specs.Scripts.{script_of}
use Rattle.live_requests.specs.declared.request.Request.{Request}
use Rattle.live_requests.specs.declared.request.Request.TheVariants as request
use Rattle.live_requests.specs.Requests.{read_as, of_the_fault, of_a_call, of_a_limit, long_of, or_other}
use Rattle.live_requests.specs.Requests.{request_of, is_quit}

no_fault_quits : (it : Request) → is_quit (of_the_fault it) ≡ false
no_fault_quits request.Nothing = refl
no_fault_quits (request.Carry (Step n)) = refl
no_fault_quits (request.Carry (Back n)) = refl
no_fault_quits (request.Carry (To place n)) = refl
no_fault_quits (request.Carry (BackTo place n)) = refl
no_fault_quits (request.Carry Regs) = refl
no_fault_quits (request.Carry (Cells from count)) = refl
no_fault_quits request.Stack = refl
no_fault_quits (request.RegsOf depth) = refl
no_fault_quits request.Fault = refl
no_fault_quits (request.FaultCells from count) = refl
no_fault_quits request.Value = refl
no_fault_quits request.Heap = refl
no_fault_quits request.Spend = refl
no_fault_quits (request.Limit most) = refl
no_fault_quits request.Quit = refl
no_fault_quits request.Bad = refl

no_call_quits : (depth : Option ℕ) → is_quit (of_a_call depth) ≡ false
no_call_quits None = refl
no_call_quits (Some depth) = refl

no_limit_quits : (most : Option ℕ) → is_quit (of_a_limit most) ≡ false
no_limit_quits None = refl
no_limit_quits (Some most) = refl

by_words : (a b c d : Bool) (it : Request) (most depth : Option ℕ)
    → is_quit (if a then of_the_fault it else if b then request.Value else if c then of_a_limit most
    else if d then of_a_call depth else request.Bad)
    ≡ false
by_words true b c d it most depth = no_fault_quits it
by_words false true c d it most depth = refl
by_words false false true d it most depth = no_limit_quits most
by_words false false false true it most depth = no_call_quits depth
by_words false false false false it most depth = refl

no_long_quits : (line : List ℕ) → is_quit (long_of line) ≡ false
no_long_quits line =
    by_words (bytes_eq (take 6 line) (codes "fault ")) (bytes_eq (take 6 line) (codes "value "))
    (bytes_eq (take 6 line) (codes "limit ")) (bytes_eq (take 5 line) (codes "regs "))
    (read_as (script_of (drop 6 line))) (short_number (drop 6 line)) (short_number (drop 5 line))

by_looks : (a b c : Bool) (it : Request) → is_quit it ≡ false
    → is_quit (if a then request.Heap else if b then request.Spend else if c then request.Bad else it) ≡ false
by_looks true b c it on = refl
by_looks false true c it on = refl
by_looks false false true it on = refl
by_looks false false false it on = on

no_script_quits : (line : List ℕ) (read : Result (List Command) ScriptError) → is_quit (or_other line read) ≡ false
no_script_quits line (Ok []) = refl
no_script_quits line (Ok (command ∷ [])) = refl
no_script_quits line (Ok (command ∷ other ∷ commands)) = refl
no_script_quits line (Err e) =
    by_looks (bytes_eq line (codes "heap")) (bytes_eq line (codes "spend")) (nat_lt (length line) 6) (long_of line)
    (no_long_quits line)

by_requests : (a b : Bool) (it : Request) → is_quit it ≡ false
    → is_quit (if a then request.Stack else if b then request.Fault else it) ≡ false
by_requests true b it on = refl
by_requests false true it on = refl
by_requests false false it on = on

no_other_quits : (line : List ℕ) → bytes_eq line (codes "quit") ≡ false → is_quit (request_of line) ≡ false
no_other_quits line other =
    rw other (by_requests (bytes_eq line (codes "stack")) (bytes_eq line (codes "fault"))
    (or_other line (script_of line))
    (no_script_quits line (script_of line)))

pub no_other_quits_err : {X E : Type 0} (result : Result X E) (line : List ℕ) → bytes_eq line (codes "quit") ≡ false
    → OnErr result (is_quit (request_of line) ≡ false)
no_other_quits_err (Ok x) line other = tt
no_other_quits_err (Err e) line other = no_other_quits line other
