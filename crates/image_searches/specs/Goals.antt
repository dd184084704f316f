-- What moves look for, as a property of positions.
use Rattle.std.specs.Prelude.{ℕ, ℤ, pos, Bool, true, false, not, ◌||◌, nat_eq, if◌then◌else◌}
use Rattle.std.specs.Prelude.{List, [], ◌∷◌, Option, Some, None, slice_get, is_some}
use Rattle.std.specs.List.{list_any}
use Rattle.std.specs.Ordering.{int_eq}
use Rattle.live_requests.specs.pisa_machine.Position.{Position}
use Rattle.live_requests.specs.pisa_scripts.Lines.{number_up_to, short_number}
use Rattle.live_requests.specs.declared.asks.Goal.{Goal}
use Rattle.live_requests.specs.declared.asks.Goal.TheVariants as goal
use Rattle.image_searches.specs.declared.watches.Watch.{Watch}
use Rattle.image_searches.specs.declared.watches.Watch.TheVariants.{Nothing, Register, Cell}
use Rattle.live_requests.specs.Asks.{first_argument}

-- ---- what is watched

-- R of `$R`
abbrev pub register_of : List ℕ → Option ℕ
register_of [] = None
register_of (b ∷ digits) = if nat_eq b 36 then number_up_to 31 digits else None

abbrev pub register_watch : Option ℕ → Watch
register_watch None = Nothing
register_watch (Some register) = Register register

-- the register `$R` that is the first of the arguments, or the memory cell
abbrev pub image_watch_of : Goal → (arguments : List (List ℕ)) → Watch
image_watch_of goal.Points arguments = Nothing
image_watch_of goal.Any arguments = Nothing
image_watch_of (goal.Depth most) arguments = Nothing
image_watch_of goal.Change arguments = register_watch (register_of (first_argument arguments))
image_watch_of (goal.Cell at) arguments = Cell at

-- its word at a position, if it exists
abbrev pub watched_word : Watch → Position → Option ℕ
watched_word Nothing p = None
watched_word (Register register) p = slice_get p.state.regs register
watched_word (Cell at) p = slice_get p.state.cells at

abbrev pub is_other : (here from : Option ℕ) → Bool
is_other None None = false
is_other None (Some m) = true
is_other (Some n) None = true
is_other (Some n) (Some m) = not (nat_eq n m)

-- ---- code addresses

abbrev pub with_number : Option ℕ → List ℤ → List ℤ
with_number None numbers = numbers
with_number (Some number) numbers = pos number ∷ numbers

-- the numbers that words write
abbrev pub parsed_numbers : List (List ℕ) → List ℤ
parsed_numbers [] = []
parsed_numbers (word ∷ words) = with_number (short_number word) (parsed_numbers words)

abbrev pub places_of : Goal → (arguments : List (List ℕ)) → List ℤ
places_of goal.Points arguments = []
places_of goal.Any arguments = parsed_numbers arguments
places_of (goal.Depth most) arguments = []
places_of goal.Change arguments = []
places_of (goal.Cell at) arguments = []

-- ---- goals

-- the code addresses that are looked for, what is watched, and its word at the beginning
pub record Sought : Type 0 where
  pub places : List ℤ
  pub watch : Watch
  pub from : Option ℕ

-- what moves from a position on look for
abbrev pub sought : Goal → (arguments : List (List ℕ)) → (from : Position) → Sought
sought goal arguments from = record {
  places = places_of goal arguments;
  watch = image_watch_of goal arguments;
  from = watched_word (image_watch_of goal arguments) from;
}

-- whether a position has one of the code addresses, or what is watched has another word
abbrev pub is_wanted : Sought → Position → Bool
is_wanted it p =
    list_any (int_eq p.state.pc) it.places || is_other (watched_word it.watch p) it.from

-- whether the run of an image has what moves look for
abbrev pub is_served : Goal → (arguments : List (List ℕ)) → Bool
is_served goal.Points arguments = true
is_served goal.Any arguments = true
is_served (goal.Depth most) arguments = false
is_served goal.Change arguments = is_some (register_of (first_argument arguments))
is_served (goal.Cell at) arguments = true
