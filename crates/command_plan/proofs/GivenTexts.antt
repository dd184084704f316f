-- What holds for texts that were read.
use Rattle.std.proofs.Common.{◌≡◌, ℕ, ◌≤◌, List, length, subst}
use Rattle.std.specs.declared.option.Option.{Option}
use Rattle.pisa_loader.specs.declared.input.TheConstants.{MOST_INPUT}
use Rattle.rpp_ports.specs.Ports.{Texts, IsTextOf}
use Rattle.command_plan.specs.Plans.{WithText, WithInput, WithState, IsInputText, IsStateText}

-- P holds for what was given on, which is the text that was read
pub with_text : (told : Option Texts) (name : List ℕ) (limit : ℕ) (read given : List ℕ) (P : List ℕ → Type 0)
    → IsTextOf told name read → length read ≤ limit → given ≡ read → P given → WithText told name limit P
with_text told name limit read given P is within same holds =
    record { text = read; is_text = is; within = within; holds = subst P same holds }

pub with_input : (told : Option Texts) (name : Option (List ℕ)) (read given : List ℕ) (P : List ℕ → Type 0)
    → IsInputText told name read → length read ≤ MOST_INPUT → given ≡ read → P given → WithInput told name P
with_input told name read given P is within same holds =
    record { text = read; is_text = is; within = within; holds = subst P same holds }

pub with_state : (told : Option Texts) (name read given : Option (List ℕ)) (P : Option (List ℕ) → Type 0)
    → IsStateText told name read → given ≡ read → P given → WithState told name P
with_state told name read given P is same holds =
    record { text = read; is_text = is; holds = subst P same holds }
