-- Plans as contracts see them, and what they are made of.
use Rattle.std.specs.Prelude.{◌≡◌, string_bytes, ◌⊎◌, ℕ, ◌≤◌, List, [], None, Some}
use Rattle.std.specs.Prelude.{option_map, length, Result, IfOk}
use Rattle.std.specs.declared.option.Option.{Option}
use Rattle.pisa_loader.specs.declared.input.TheConstants.{MOST_INPUT}
use Rattle.rpp_ports.specs.Ports.{Texts, IsTextOf}
use Rattle.command_plan.specs.declared.reading.TheConstants.{MOST_STATE}
use Rattle.command_ends.specs.declared.verdict.Verdict.{Verdict}
use Rattle.command_ends.specs.declared.verdict.Verdict.TheVariants.{Done}
use Rattle.command_plan.specs.declared.plan.Writing.{Writing}
use Rattle.command_plan.specs.declared.plan.Plan.{Plan}
use Rattle.command_plan.specs.declared.plan.NoPlan.{NoPlan}

-- a file that is to be written
pub record Written : Type 0 where
  pub name : List ℕ
  pub bytes : List ℕ

-- a plan, with lists of bytes for texts
pub record Planned : Type 0 where
  pub verdict : Verdict
  pub text : List ℕ
  pub writing : Option Written

abbrev pub written_file : Writing → Written
written_file w = record { name = string_bytes w.name; bytes = w.bytes.items }

abbrev pub planned : Plan → Planned
planned p = record {
  verdict = p.verdict;
  text = string_bytes p.text;
  writing = option_map written_file p.writing;
}

-- a plan that prints a text and writes nothing
abbrev pub prints : Verdict → List ℕ → Planned
prints verdict text = record { verdict = verdict; text = text; writing = None }

-- a plan that writes a file, and prints a text
abbrev pub writes : (name bytes text : List ℕ) → Planned
writes name bytes text =
    record { verdict = Done; text = text; writing = Some (record { name = name; bytes = bytes }) }

-- A file was read, and P holds for its text, which has at most so many bytes. If the file store
-- knows its contents, these are used; otherwise what the file store returned.
pub record WithText (told : Option Texts) (name : List ℕ) (limit : ℕ) (P : List ℕ → Type 0) : Type 0
  where
    pub text : List ℕ
    pub is_text : IsTextOf told name text
    pub within : length text ≤ limit
    pub holds : P text

-- the text of an input, which is empty if there is none
abbrev pub IsInputText : Option Texts → Option (List ℕ) → List ℕ → Type 0
IsInputText told None text = text ≡ []
IsInputText told (Some name) text = IsTextOf told name text

-- the input was read if there is one, and P holds for its text
pub record WithInput (told : Option Texts) (name : Option (List ℕ)) (P : List ℕ → Type 0) : Type 0
  where
    pub text : List ℕ
    pub is_text : IsInputText told name text
    pub within : length text ≤ MOST_INPUT
    pub holds : P text

-- the text of a state, if there is one
abbrev pub IsStateText : Option Texts → Option (List ℕ) → Option (List ℕ) → Type 0
IsStateText told None text = text ≡ None
IsStateText told (Some name) None = ⊥
IsStateText told (Some name) (Some text) = IsTextOf told name text × (length text ≤ MOST_STATE)

-- the state was read if there is one, and P holds for its text
pub record WithState (told : Option Texts) (name : Option (List ℕ)) (P : Option (List ℕ) → Type 0)
    : Type 0 where
  pub text : Option (List ℕ)
  pub is_text : IsStateText told name text
  pub holds : P text

-- a plan writes nothing or the target
abbrev pub WritesOnly : Planned → Option (List ℕ) → Type 0
WritesOnly p name = (p.writing ≡ None) ⊎ (option_map (λ w. w.name) p.writing ≡ name)

-- if there is a plan, P holds for it, and for the contents that the file store knows, if it does
abbrev pub GivesPlan : (told : Option Texts) → (P : Option Texts → Planned → Type 0)
    → Result Plan NoPlan → Type 0
GivesPlan told P result = IfOk result (λ plan. P told (planned plan))
