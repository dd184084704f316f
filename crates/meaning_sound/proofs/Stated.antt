-- The laws in the form of their statements.
use Rattle.roopl_semantics.specs.Execution.{Setting, exec}
use Rattle.roopl_semantics.specs.Laws.{CountsAreReferences}
use Rattle.meaning_sound.specs.Sound.{Keeps}
use Rattle.meaning_sound.specs.Kept.{AcceptedIsPlain, StartIsSound, ExecutionKeeps, EndIsSound}
use Rattle.meaning_sound.proofs.Runs.{ends_done}
use Rattle.meaning_sound.proofs.Accepted.{knows_classes}
use Rattle.meaning_sound.proofs.Plainness.{program_plain}
use Rattle.meaning_sound.proofs.Keeping.{exec_keeps}
use Rattle.meaning_sound.proofs.Starting.{starting_sound, end_sound, counts_are_references}

pub accepted_is_plain : AcceptedIsPlain
accepted_is_plain program accepted = program_plain program accepted

pub start_is_sound : StartIsSound
start_is_sound program limits input inside valid = starting_sound program limits input inside valid

pub execution_keeps : ExecutionKeeps
execution_keeps program limits fuel extra locals shape class body start end cost accepted inside means checked plain
    sound done =
    let setting : Setting = record { program = program; limits = limits } in
    ends_done (Keeps setting extra shape class start) (exec setting fuel body start) end cost
    ((exec_keeps setting (knows_classes program accepted (program_plain program accepted)) fuel).by extra locals shape
    class body start inside means checked plain sound) done

pub end_is_sound : EndIsSound
end_is_sound program limits input fuel end cost accepted inside valid done =
    end_sound program limits input fuel end cost accepted (program_plain program accepted) inside valid done

pub counts_are_held : CountsAreReferences
counts_are_held program limits input fuel end cost accepted inside valid done =
    counts_are_references program limits input fuel end cost accepted (program_plain program accepted) inside valid done
