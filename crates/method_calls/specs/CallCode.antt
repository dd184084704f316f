-- The code of calls, of methods and of blocks with a local variable.
use Rattle.std.specs.Prelude.{ℕ, ◌+◌, Bool, false, List, [], ◌∷◌, ◌++◌, length}
use Rattle.refine_form.specs.rpp_words.Words.{negated}
use Rattle.refine_form.specs.rpp_words.declared.input.TheConstants.{FRAME_WORDS}
use Rattle.refine_form.specs.declared.spot.Spot.{Spot}
use Rattle.refine_form.specs.declared.spot.Spot.TheVariants.{Frame}
use Rattle.refine_form.specs.rpp_tree.declared.tree.Ident.{Ident}
use Rattle.refine_form.specs.pisa_isa.declared.cell.Cell.{Cell}
use Rattle.refine_form.specs.pisa_isa.declared.fixed.TheConstants.{STACK_CELL, END_CELL}
use Rattle.refine_form.specs.code_conventions.Cells.{add, sub, exch, addi}
use Rattle.refine_form.specs.code_conventions.declared.faults.TheConstants.{DELOCAL, NIL, TOO_DEEP, TOUCHED}
use Rattle.refine_form.specs.code_conventions.declared.memory.TheConstants.{FIRST_VARIABLE}
use Rattle.refine_form.specs.code_conventions.declared.memory.TheConstants.{MAIN_OBJECT}
use Rattle.refine_form.specs.code_conventions.declared.memory.TheConstants.{OBJECT_WORD, PLACE_WORD}
use Rattle.refine_form.specs.code_conventions.declared.memory.TheConstants.{TABLE_HEADER}
use Rattle.refine_form.specs.code_conventions.declared.registers.TheConstants.{ADDRESS, CONTENT, FRAME}
use Rattle.refine_form.specs.code_conventions.declared.registers.TheConstants.{LINK}
use Rattle.refine_form.specs.code_conventions.declared.registers.TheConstants.{MOVED, NOUGHT, OBJECT, VALUE}
use Rattle.refine_form.specs.paired_code.declared.part.Symbol.{Symbol}
use Rattle.refine_form.specs.paired_code.declared.part.Symbol.TheVariants.{Enter}
use Rattle.refine_form.specs.paired_code.Layout.{mirror_cells, check_equal_cells, check_differ_cells}
use Rattle.refine_form.specs.paired_code.Layout.{check_positive_cells, enter_at_cells}
use Rattle.refine_form.specs.paired_code.Rows.{line}
use Rattle.refine_form.specs.Cells.{around}
pub use Rattle.refine_form.specs.Cells.{base_of, offset_of}

-- the first variable's word in a frame
abbrev pub first_frame_word : ℕ
first_frame_word = FIRST_VARIABLE

-- the base goes to the storage slot
abbrev pub reach_row : Spot → List Cell
reach_row spot = addi (base_of spot) (offset_of spot) ∷ []

-- FRAME goes to a word of the frame above
abbrev pub above_cells : ℕ → List Cell
above_cells word = addi FRAME (FRAME_WORDS + word) ∷ []

-- the word of a storage slot leaves its cell for MOVED; back, the cell is to be 0
abbrev pub take_code : Spot → List Symbol
take_code spot = around (line (reach_row spot))
    (check_equal_cells MOVED NOUGHT TOUCHED ++ line (exch MOVED (base_of spot) ∷ []))

-- MOVED changes places with a word of the frame above
abbrev pub put_code : ℕ → List Symbol
put_code word = around (line (above_cells word)) (line (exch MOVED FRAME ∷ []))

-- the value of a variable moves into a variable's word of the frame above; back, the variable is to
-- be 0
unfoldable pub move_code : Spot → ℕ → List Symbol
move_code spot j = take_code spot ++ put_code (first_frame_word + j)

-- the last argument first
abbrev pub moves_code : (Ident → Spot) → List Ident → List Symbol
moves_code spot [] = []
moves_code spot (name ∷ names) = moves_code spot names ++ move_code (spot name) (length names)

-- CONTENT gets the end of the stack, a frame less: where the last frame begins
abbrev pub end_row : List Cell
end_row =
    addi ADDRESS END_CELL ∷ exch CONTENT ADDRESS ∷ addi CONTENT (negated FRAME_WORDS) ∷ []

-- the current frame is not the last one
abbrev pub depth_code : List Symbol
depth_code = around (line end_row) (check_differ_cells FRAME CONTENT TOO_DEEP)

-- VALUE gets the code address of the method in a slot, by the table of the current object's class,
-- whose word is out of the object during this
abbrev pub fetch_row : ℕ → List Cell
fetch_row slot =
    exch MOVED OBJECT ∷ addi MOVED (TABLE_HEADER + slot) ∷ exch CONTENT MOVED
    ∷ add VALUE CONTENT ∷ exch CONTENT MOVED ∷ addi MOVED (negated (TABLE_HEADER + slot))
    ∷ exch MOVED OBJECT ∷ []

-- before a call on the current object
abbrev pub front_code : (Ident → Spot) → ℕ → List Ident → List Symbol
front_code spot slot args = depth_code ++ (moves_code spot args
    ++ line (addi FRAME FRAME_WORDS ∷ fetch_row slot))

-- a call or uncall on the current object
abbrev pub call_code : (Ident → Spot) → Bool → ℕ → List Ident → List Symbol
call_code spot back slot args = around (front_code spot slot args) (enter_at_cells VALUE back)

-- the link and the place are saved in words 0 and 2 of the frame
abbrev pub save_row : List Cell
save_row =
    exch LINK FRAME ∷ addi FRAME PLACE_WORD ∷ exch VALUE FRAME ∷ addi FRAME (negated PLACE_WORD)
    ∷ []

-- a method's body
abbrev pub method_code : List Symbol → List Symbol
method_code body = around (line save_row) body

-- OBJECT gets the address of the main object, and FRAME the stack's base
abbrev pub main_row : List Cell
main_row =
    addi OBJECT MAIN_OBJECT ∷ addi ADDRESS STACK_CELL ∷ exch CONTENT ADDRESS ∷ add FRAME CONTENT
    ∷ exch CONTENT ADDRESS ∷ addi ADDRESS (negated STACK_CELL) ∷ []

-- the main fragment runs the routine of `main`
abbrev pub main_code : ℕ → List Symbol
main_code routine = around (line main_row) (Enter routine false ∷ [])

-- VALUE changes places with a word of the frame
abbrev pub store_code : ℕ → List Symbol
store_code word = around (line (reach_row (Frame word))) (line (exch VALUE FRAME ∷ []))

-- a value goes into the word of a new variable; back, the word is to be the value, or fault 3 comes
abbrev pub local_open : ℕ → List Symbol → List Symbol
local_open word value = check_equal_cells VALUE NOUGHT DELOCAL ++ (value ++ store_code word)

-- a block with a local variable: the codes of its value, its block and the closing value
abbrev pub local_code : ℕ → (value body last : List Symbol) → List Symbol
local_code word value body last = local_open word value
    ++ (body ++ mirror_cells (local_open word last))

-- CONTENT gets the word of a storage slot, which is 0 during this
abbrev pub peek_row : Spot → List Cell
peek_row spot = addi (base_of spot) (offset_of spot) ∷ exch CONTENT (base_of spot) ∷ []

-- a receiver is not to be nil
abbrev pub nil_code : Spot → List Symbol
nil_code spot = around (line (peek_row spot)) (check_positive_cells CONTENT NIL)

-- OBJECT is saved in the frame above, and gets the receiver's word
abbrev pub onto_code : List Symbol
onto_code = around (line (above_cells OBJECT_WORD)) (line (exch OBJECT FRAME ∷ []))
    ++ line (add OBJECT MOVED ∷ sub MOVED OBJECT ∷ [])

-- before a call on the object of a variable
abbrev pub front_on_code : (Ident → Spot) → Ident → ℕ → List Ident → List Symbol
front_on_code spot x slot args =
    nil_code (spot x) ++ (depth_code
    ++ (moves_code spot args ++ (take_code (spot x)
    ++ (onto_code ++ line (addi FRAME FRAME_WORDS ∷ fetch_row slot)))))

-- a call or uncall on the object of a variable
abbrev pub call_on_code : (Ident → Spot) → Bool → Ident → ℕ → List Ident → List Symbol
call_on_code spot back x slot args = around (front_on_code spot x slot args)
    (enter_at_cells VALUE back)

-- the moves of arguments that are in these storage slots
abbrev pub moves_of : List Spot → List Symbol
moves_of [] = []
moves_of (spot ∷ spots) = moves_of spots ++ move_code spot (length spots)

-- the last cells before a call, under one name
unfoldable pub last_cells : ℕ → List Symbol
last_cells slot = line (addi FRAME FRAME_WORDS ∷ fetch_row slot)

-- the cells after the moves of the arguments, under one name
unfoldable pub behind_of : Spot → ℕ → List Symbol
behind_of x slot = take_code x ++ (onto_code ++ last_cells slot)

-- the same with the check of the depth and the moves
unfoldable pub checked_of : Spot → ℕ → List Spot → List Symbol
checked_of x slot args = depth_code ++ (moves_of args ++ behind_of x slot)

-- what comes before a call on the object of a variable, by the storage slots
unfoldable pub front_on_of : Spot → ℕ → List Spot → List Symbol
front_on_of x slot args = nil_code x ++ checked_of x slot args

-- a call on the current object, by the storage slots of its arguments
unfoldable pub own_cells : Bool → ℕ → List Spot → List Symbol
own_cells back slot args = around (depth_code ++ (moves_of args ++ last_cells slot))
    (enter_at_cells VALUE back)

-- the main fragment, under one name
unfoldable pub main_cells : ℕ → List Symbol
main_cells routine = main_code routine
